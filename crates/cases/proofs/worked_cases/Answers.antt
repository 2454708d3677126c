use Rattle.std.proofs.Common.{refl}
use Rattle.cases.proofs.Shown.{all_hold}
use Rattle.cases.proofs.worked_cases.Goals as goal

pub returns : goal.returns
returns c = record { count = refl; hold = all_hold c.tested_plans_are_best.ensures }
