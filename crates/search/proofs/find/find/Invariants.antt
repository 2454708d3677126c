use Rattle.std.proofs.Common.{◌≡◌, ◌-◌, length, vec_capacity}
use Rattle.search.specs.Views.{seen}
use Rattle.search.proofs.Searching.{Searching}
use Rattle.search.proofs.find.find.Given as goal

abbrev pub invariant-loop-next : goal.invariant-loop-next
invariant-loop-next g l = record {
  searching : Searching (seen g.S.PairSource.pairs g.P.Priority.reaches l.view) l.queue.items l.marks l.next l.low;
  capacity : vec_capacity l.queue ≡ vec_capacity l.fn.queue;
}

abbrev pub decreases-loop-next : goal.decreases-loop-next
decreases-loop-next g l = length l.initial.marks - l.next
