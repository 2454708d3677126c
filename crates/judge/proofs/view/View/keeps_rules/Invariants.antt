use Rattle.std.proofs.Common.{◌+◌, ◌-◌}
use Rattle.judge.specs.Handed.{shown}
use Rattle.judge.proofs.Turns.{Tried, Asked}
use Rattle.judge.proofs.view.View.keeps_rules.Given as goal

abbrev pub invariant-rules : goal.invariant-rules
invariant-rules g l = Tried g.P.Priority.reaches (shown g.S.PairSource.pairs l.self) l.names l.programme l.passed

abbrev pub invariant-loop-slot : goal.invariant-loop-slot
invariant-loop-slot g l = Asked g.P.Priority.reaches (shown g.S.PairSource.pairs l.self) l.names l.programme l.name l.from l.passed

abbrev pub decreases-loop-slot : goal.decreases-loop-slot
decreases-loop-slot g l = (shown g.S.PairSource.pairs l.self).pairs.slots + 1 - l.from
