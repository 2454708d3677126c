use Rattle.matching.proofs.Agreement.{best_plans_agree}
use Rattle.matching.proofs.best_plans_agree.Goals as goal

pub returns : goal.returns
returns g c =
    let laws = g.met.P.Priority in
    best_plans_agree (record { total = laws.total; transitive = laws.transitive })
