use Rattle.std.proofs.Common.{◌≡◌, ℕ, ◌+◌, ◌<◌, cond, get_or}
use Rattle.planner.specs.Run.{waiting}
use Rattle.planner.proofs.choose.mark_waiting.Given as goal

abbrev pub invariant-loop-i : goal.invariant-loop-i
invariant-loop-i l = (k : ℕ) → k < l.i → get_or l.marks k 0 ≡ cond (waiting l.present l.slot_of l.done (k + 1)) 1 0
