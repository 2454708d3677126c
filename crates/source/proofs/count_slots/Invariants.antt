use Rattle.std.proofs.Common.{◌≡◌, ◌+◌, ◌-◌, ◌<◌, ◌≤◌}
use Rattle.refusal.specs.Counting.{count}
use Rattle.source.specs.Pairs.{holds}
use Rattle.source.proofs.count_slots.Given as goal

-- The slots below `from` are counted.
abbrev pub invariant-loop-slot : goal.invariant-loop-slot
invariant-loop-slot g l = let p = g.S.PairSource.pairs l.source in (0 < l.from) × (l.from ≤ p.slots + 1) × (l.slots ≡ count (holds p l.programme) (l.from - 1)) × (l.slots < l.from) × (l.from ≤ 256)

abbrev pub decreases-loop-slot : goal.decreases-loop-slot
decreases-loop-slot g l = (g.S.PairSource.pairs l.source).slots + 1 - l.from
