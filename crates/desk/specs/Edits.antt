-- The edits of a week by the ledger: when each is refused, and what it enters.
use Rattle.std.specs.Prelude.{ℕ, Bool, true, false, List}
use Rattle.plan.specs.Parts.{one_refusals}
use Rattle.week.specs.Calls.{withdraw_refusals, restore_refusals, week_bar_refusals, week_lift_refusals}
use Rattle.desk.specs.declared.edits.Edit.{Edit}
use Rattle.desk.specs.declared.edits.Edit.TheVariants.{Rank, Withdraw, Restore}
use Rattle.desk.specs.declared.edits.OpenEdit.{OpenEdit}
use Rattle.desk.specs.declared.edits.OpenEdit.TheVariants.{Plain, Bar, Lift}
use Rattle.desk.specs.Ledger.{Ledger, in_order, counted, here, with_allowed, with_priority, with_present}

-- What a kind E of edits means: which pairs of a source can be lifted, the tests that refuse an edit,
-- in their order, and what an accepted edit enters.
pub record Rules (S P E : Type 0) : Type 0 where
  pub possible : S → ℕ → ℕ → Bool
  pub refusals : Ledger P → E → List (Bool × ℕ)
  pub entered : E → Ledger P → Ledger P

module _ {P : Type 0} where
  -- Rank: 12, then 10. Withdraw: 12, 10, then 14. Restore: 12, 10, then 15.
  abbrev pub plain_refusals : Ledger P → Edit P → List (Bool × ℕ)
  plain_refusals l (Rank who p) = one_refusals (in_order l) (counted l who)
  plain_refusals l (Withdraw who) = withdraw_refusals (in_order l) (counted l who) (here l who)
  plain_refusals l (Restore who) = restore_refusals (in_order l) (counted l who) (here l who)

  abbrev pub plain_entered : Edit P → Ledger P → Ledger P
  plain_entered (Rank who p) l = with_priority l who p
  plain_entered (Withdraw who) l = with_present l who false
  plain_entered (Restore who) l = with_present l who true

  -- Bar: 12, 10, then 16. Lift: 12, 10, 17, then 18.
  abbrev pub open_refusals : Ledger P → OpenEdit P → List (Bool × ℕ)
  open_refusals l (Plain edit) = plain_refusals l edit
  open_refusals l (Bar i s) = week_bar_refusals (in_order l) l.pairs i s
  open_refusals l (Lift i s) = week_lift_refusals (in_order l) l.pairs l.possible i s

  abbrev pub open_entered : OpenEdit P → Ledger P → Ledger P
  open_entered (Plain edit) l = plain_entered edit l
  open_entered (Bar i s) l = with_allowed l i s false
  open_entered (Lift i s) l = with_allowed l i s true

-- The edits of any source: none can lift a pair.
abbrev pub plain_rules : {S P : Type 0} → Rules S P (Edit P)
plain_rules = record { possible = λ source i s. false; refusals = plain_refusals; entered = plain_entered }

-- The edits of an open source, whose possible pairs are given.
abbrev pub open_rules : {S P : Type 0} → (S → ℕ → ℕ → Bool) → Rules S P (OpenEdit P)
open_rules possible = record { possible = possible; refusals = open_refusals; entered = open_entered }
