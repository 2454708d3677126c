use Rattle.std.proofs.Common.{◌≡◌, ◌+◌, ◌-◌, vec_capacity}
use Rattle.search.specs.Views.{seen}
use Rattle.search.proofs.Looking.{Looking}
use Rattle.search.proofs.find.look.Given as goal

abbrev pub invariant-loop-slot : goal.invariant-loop-slot
invariant-loop-slot g l = record {
  looking : Looking (seen g.S.PairSource.pairs g.P.Priority.reaches l.view) l.fn.queue.items l.fn.marks l.from l.queue.items l.marks l.lower l.next;
  capacity : vec_capacity l.queue ≡ vec_capacity l.fn.queue;
}

abbrev pub decreases-loop-slot : goal.decreases-loop-slot
decreases-loop-slot g l = (g.S.PairSource.pairs l.view.source.now).slots + 1 - l.next
