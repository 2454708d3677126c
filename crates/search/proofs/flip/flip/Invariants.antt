use Rattle.std.proofs.Common.{◌≡◌}
use Rattle.plan.specs.Held.{held}
use Rattle.search.proofs.Flipping.{Walking}
use Rattle.search.proofs.flip.flip.Given as goal

abbrev pub invariant-loop-place : goal.invariant-loop-place
invariant-loop-place l = record {
  walking : Walking (held l.fn.plan).slot_of (held l.fn.plan).programme_in l.queue l.fn.end.from l.fn.end.slot (held l.plan).slot_of (held l.plan).programme_in l.slot l.place;
  attendance : (held l.plan).attendance ≡ (held l.fn.plan).attendance;
}

abbrev pub decreases-loop-place : goal.decreases-loop-place
decreases-loop-place l = l.place
