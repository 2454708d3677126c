-- What planning leaves: a best plan for the parts handed in, and a certificate that proves it.
use Rattle.std.specs.Prelude.{◌≡◌, ℕ, ◌+◌, Bool, true, List, length}
use Rattle.source.specs.Pairs.{Pairs}
use Rattle.matching.specs.Board.{Best}
use Rattle.matching.specs.Check.{passes}
use Rattle.matching.specs.Lists.{plan_of, certificate_of}
use Rattle.plan.specs.Held.{Held}
use Rattle.plan.specs.declared.parts.Parts.{Parts}
use Rattle.plan.specs.Parts.{ranked, fits, board_of}
use Rattle.week.specs.declared.Sheet.{Sheet}
use Rattle.week.specs.Sheets.{plan_in, certificate_in}

pub record Planned {P : Type 0} (reaches : P → P → Bool) (pairs : Pairs) (programmes slots : List P) (plan : Held) (certificate : List ℕ) : Type 0 where
  -- the parts fit together
  pub fit : fits pairs programmes slots plan ≡ true
  -- the certificate has one entry for each programme and each slot
  pub entries : length certificate ≡ length programmes + length slots
  -- the plan passes with it
  pub passing : passes (board_of reaches pairs programmes slots plan.attendance) (plan_of plan.slot_of) (certificate_of (length programmes) certificate) ≡ true
  -- hence no lawful plan places more programmes, or fills more slots, at any priority
  pub best : Best (board_of reaches pairs programmes slots plan.attendance) (plan_of plan.slot_of)

-- The same of the parts handed in, and of what a week holds.
abbrev pub PlannedFor : {S P : Type 0} (reaches : P → P → Bool) → (S → Pairs) → Parts S P → Sheet → Type 0
PlannedFor reaches pairs parts sheet = Planned reaches (pairs parts.source.now) (ranked parts.programmes.now) (ranked parts.slots.now) (plan_in sheet) (certificate_in sheet)
