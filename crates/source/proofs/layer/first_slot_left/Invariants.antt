use Rattle.std.proofs.Common.{◌≡◌, ◌+◌, ◌-◌}
use Rattle.source.specs.Pairs.{first_slot, layered}
use Rattle.source.proofs.layer.first_slot_left.Given as goal

-- The first slot from `next` on is still the first from `from` on.
abbrev pub invariant-loop-slot : goal.invariant-loop-slot
invariant-loop-slot g l = let left = layered (g.S.PairSource.pairs l.below) (g.E.Exclusion.excluded l.out) in first_slot left l.programme l.next ≡ first_slot left l.programme l.from

abbrev pub decreases-loop-slot : goal.decreases-loop-slot
decreases-loop-slot g l = (g.S.PairSource.pairs l.below).slots + 1 - l.next
