-- The theorem of the week: what holds after each call of any list, from a new week on.
use Rattle.std.specs.Prelude.{◌≡◌, ◌+◌, Bool, true, false, ◌&&◌, List, [], ◌∷◌, length}
use Rattle.matching.specs.Board.{Best}
use Rattle.matching.specs.Check.{passes}
use Rattle.matching.specs.Lists.{plan_of, certificate_of}
use Rattle.desk.specs.declared.calls.Call.{Call}
use Rattle.desk.specs.Ledger.{board, in_order}
use Rattle.desk.specs.Told.{Served, Told, told, is_done}
use Rattle.desk.specs.Moments.{Moment, Meaning, new_moment, answer, enter, open_after, replans}

-- A week stands at a moment when:
pub record Stands {P : Type 0} (reaches : P → P → Bool) (m : Moment P) : Type 0 where
  -- its ledger is in order;
  pub ordered : in_order m.ledger ≡ true
  -- the plan is lawful by the ledger, and at every priority p no plan that is lawful then places more
  -- programmes of priority p or higher, or fills more slots of priority p or higher;
  pub best : Best (board reaches m.ledger) (plan_of m.plan)
  -- the certificate that would be told has one entry for each programme and each slot,
  pub entries : length m.certificate ≡ length m.ledger.programmes + length m.ledger.slots
  -- and the judge passes the plan with it.
  pub passing : passes (board reaches m.ledger) (plan_of m.plan) (certificate_of (length m.ledger.programmes) m.certificate) ≡ true

module _ {S P E : Type 0} (M : Meaning S P E) where
  -- A call is worked: from one moment to the next, with what is told.
  pub record Follows (m : Moment P) (call : Call S P E) (t : Told) (n : Moment P) : Type 0 where
    -- what is told is the defined answer,
    pub answered : t ≡ answer M call m
    -- the ledger is what the call's arguments make of it,
    pub entered : n.ledger ≡ enter M call m
    pub opened : n.opened ≡ open_after call m.opened
    -- and plan and certificate stay, unless a load or an edit was accepted.
    pub kept : (replans call && is_done t) ≡ false → (n.plan ≡ m.plan) × (n.certificate ≡ m.certificate)

  -- A list of calls is worked, each with its answer, and the week stands after each of them.
  abbrev pub Worked : Moment P → List (Call S P E) → List Served → Type 0
  Worked m [] [] = Unit {0}
  Worked m [] (a ∷ answers) = ⊥
  Worked m (call ∷ calls) [] = ⊥
  Worked m (call ∷ calls) (a ∷ answers) = (next : Moment P) × Follows m call (told a) next × Stands M.reaches next × Worked next calls answers

  -- A run: the new week stands, and the list is worked from it.
  pub record Ran (calls : List (Call S P E)) (answers : List Served) : Type 0 where
    pub new : Stands M.reaches new_moment
    pub worked : Worked new_moment calls answers
