use Rattle.std.proofs.Common.{rules}
use Rattle.plan.proofs.Plan.tally.Goals as goal

pub returns-clause-told : goal.returns-clause-told
returns-clause-told g c = c.count_sides.ensures.told g.P.Priority.reaches c.args.priority.now (λ own told k. search rules)
