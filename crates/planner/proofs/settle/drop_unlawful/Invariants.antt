use Rattle.std.proofs.Common.{◌≡◌}
use Rattle.source.specs.Pairs.{holds}
use Rattle.plan.specs.Held.{held}
use Rattle.planner.proofs.Dropping.{Dropping}
use Rattle.planner.proofs.settle.drop_unlawful.Given as goal

abbrev pub invariant-loop-programme : goal.invariant-loop-programme
invariant-loop-programme g l = record {
  dropping : Dropping (holds (g.S.PairSource.pairs l.source)) (held l.fn.plan).attendance.programmes (held l.fn.plan).attendance.slots (held l.fn.plan).slot_of (held l.plan).slot_of (held l.plan).programme_in l.programme;
  attendance : (held l.plan).attendance ≡ (held l.fn.plan).attendance;
}
