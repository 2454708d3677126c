-- What a desk holds, as a moment of its week.
use Rattle.std.specs.Prelude.{Bool, true, false, vec_items}
use Rattle.week.specs.declared.Sheet.{Sheet}
use Rattle.week.specs.Sheets.{plan_in, certificate_in}
use Rattle.desk.specs.declared.standing.Standing.{Standing}
use Rattle.desk.specs.declared.standing.Standing.TheVariants.{Open, HandedOver}
use Rattle.desk.specs.declared.desks.Desk.{Desk}
use Rattle.source.specs.Missing.{pairs_if_any, possible_if_any}
use Rattle.desk.specs.Ledger.{account}
use Rattle.desk.specs.declared.calls.Call.{Call}
use Rattle.desk.specs.Told.{Served, told}
use Rattle.desk.specs.Moments.{Moment, Meaning}
use Rattle.desk.specs.Runs.{Stands, Follows}

-- The sheet of the week, open or handed over.
abbrev pub sheet_of : Standing → Sheet
sheet_of (Open week) = week.sheet
sheet_of (HandedOver week) = week.sheet

-- The week is open.
abbrev pub is_open : Standing → Bool
is_open (Open week) = true
is_open (HandedOver week) = false

-- The moment at which the desk's week is.
abbrev pub moment_of : {S P E : Type 0} → Meaning S P E → Desk S P → Moment P
moment_of M d = record {
  opened = is_open d.standing;
  ledger = account (pairs_if_any M.pairs d.source) (possible_if_any M.rules.possible d.source) (vec_items d.programmes) (vec_items d.slots) (plan_in (sheet_of d.standing)).attendance;
  plan = (plan_in (sheet_of d.standing)).slot_of;
  certificate = certificate_in (sheet_of d.standing);
}

-- A desk works a call: its week goes from one moment to the next as the call says, and stands if it stood.
pub record Step {S P E : Type 0} (M : Meaning S P E) (d : Desk S P) (call : Call S P E) (a : Served) (e : Desk S P) : Type 0 where
  pub follows : Follows M (moment_of M d) call (told a) (moment_of M e)
  pub stands : Stands M.reaches (moment_of M d) → Stands M.reaches (moment_of M e)
