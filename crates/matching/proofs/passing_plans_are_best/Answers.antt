use Rattle.matching.proofs.Soundness.{passing_is_best}
use Rattle.matching.proofs.passing_plans_are_best.Goals as goal

pub returns : goal.returns
returns g c =
    let laws = g.met.P.Priority in
    passing_is_best (record { total = laws.total; transitive = laws.transitive })
