use Rattle.std.proofs.Common.{ℕ, ◌+◌, rules, ap}
use Rattle.priority.specs.Order.{level}
use Rattle.plan.proofs.Plan.digit.Goals as goal

pub returns-clause-told : goal.returns-clause-told
returns-clause-told g c = ap (λ (p : ℕ × ℕ). p.0 + p.1) (c.in_ok-placed.ensures.told (level g.P.Priority.reaches) c.args.priority.now (λ own told k. search rules))
