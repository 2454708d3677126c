use Rattle.plan.specs.Held.{held}
use Rattle.plan.proofs.Fills.{Taken}
use Rattle.plan.proofs.Plan.take_pairs.Given as goal

abbrev pub invariant-loop-programme : goal.invariant-loop-programme
invariant-loop-programme g l = Taken (g.S.PairSource.pairs l.source) (held l.self) l.programme
