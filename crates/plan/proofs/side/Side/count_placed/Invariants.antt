use Rattle.std.proofs.Common.{◌≡◌, ◌≤◌, Bool, length, vec_items}
use Rattle.std.specs.Fn.{FnReturnsAt}
use Rattle.refusal.specs.Counting.{count}
use Rattle.plan.specs.Counting.{Answers, counts_in}
use Rattle.plan.proofs.side.Side.count_placed.Given as goal

abbrev pub invariant-loop-own : goal.invariant-loop-own
invariant-loop-own g l = record {
  most : l.counted ≤ length l.yielded;
  within : length l.yielded ≤ length l.priorities;
  exact : (question : _ → _ → Bool) (other : _) → Answers (FnReturnsAt g.F.Fn l.asked) question other → l.counted ≡ count (counts_in question l.priorities (vec_items l.self.places) other) (length l.yielded);
}
