-- The judge's tests as it makes them, over tables. That together they are the test `passes` of the crate
-- `matching` is proved: nobody need believe these.
use Rattle.std.specs.Prelude.{ℕ, Bool, false, ◌&&◌, ◌||◌, List, length, ◌==◌, nat_eq}
use Rattle.refusal.specs.Counting.{all, ◌implies◌}
use Rattle.refusal.specs.Tables.{at, holds_at}
use Rattle.source.specs.Pairs.{holds}
use Rattle.matching.specs.Check.{rules}
use Rattle.matching.specs.Lists.{plan_of}
use Rattle.judge.specs.Handed.{Handed, turn_handed, board_in}

-- Member k is present, and has no place.
abbrev pub left_out : List Bool → List ℕ → ℕ → Bool
left_out present places k = at false present k && at 0 places k == 0

-- Rules 1 and 2 at member k.
abbrev pub well_named : {P : Type 0} → (P → P → Bool) → List P → List Bool → List ℕ → List ℕ → ℕ → Bool
well_named reaches priorities present places names k =
    (left_out present places k implies nat_eq (at 0 names k) k)
    && (at 0 names k == 0 || (at false present k && (left_out present places (at 0 names k) && holds_at reaches priorities k (at 0 names k))))

-- Rule 3 at slot s: if it is present, it holds one whose name is at least as high as w.
abbrev pub blocked : {P : Type 0} → (P → P → Bool) → List P → List Bool → List ℕ → List ℕ → ℕ → ℕ → Bool
blocked reaches priorities slots_present programme_in names w s = at false slots_present s implies holds_at reaches priorities (at 0 names (at 0 programme_in s)) w

module _ {P : Type 0} (reaches : P → P → Bool) (t : Handed P) (names : List ℕ) where
  -- Rule 3 of programme i at slot s.
  abbrev pub slot_kept : ℕ → ℕ → Bool
  slot_kept i s = holds t.pairs i s implies blocked reaches t.programmes t.plan.attendance.slots t.plan.programme_in names (at 0 names i) s

  -- The rules at programme i.
  abbrev pub keeps : ℕ → Bool
  keeps i =
      well_named reaches t.programmes t.plan.attendance.programmes t.plan.slot_of names i
      && (at 0 names i == 0 || all (slot_kept i) (length t.slots))

-- Programme i has no slot, or it and its slot are present and the pair is allowed.
abbrev pub stands : {P : Type 0} → Handed P → ℕ → Bool
stands t i =
    (at 0 t.plan.slot_of i == 0)
    || (at false t.plan.attendance.programmes i
    && (at false t.plan.attendance.slots (at 0 t.plan.slot_of i)
    && holds t.pairs i (at 0 t.plan.slot_of i)))

-- The verdict: each pair may stand, the programmes keep the rules, and so do the slots.
abbrev pub verdict : {P : Type 0} → (P → P → Bool) → Handed P → List ℕ → List ℕ → Bool
verdict reaches t programme_names slot_names =
    all (stands t) t.pairs.programmes
    && (rules (board_in reaches t) (plan_of t.plan.slot_of) (at 0 programme_names)
    && rules (board_in reaches (turn_handed t)) (plan_of t.plan.programme_in) (at 0 slot_names))
