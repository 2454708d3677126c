use Rattle.matching.proofs.Checks.{tested_is_best}
use Rattle.matching.proofs.tested_plans_are_best.Goals as goal

pub returns : goal.returns
returns g c =
    let laws = g.met.P.Priority in
    tested_is_best (record { total = laws.total; transitive = laws.transitive })
