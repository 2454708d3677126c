use Rattle.std.proofs.Common.{false, length, refl, sym, ◌∙◌, arith}
use Rattle.std.proofs.lemmas.List.{get_or_read_under}
use Rattle.search.specs.Views.{seen}
use Rattle.search.specs.Search.{nobody}
use Rattle.refusal.proofs.Counts.{within_from}
use Rattle.priority.proofs.Compare.{place_itself}
use Rattle.search.proofs.Agreement.{none_stands}
use Rattle.search.proofs.Searching.{begin_step, next_step, found_empty, past_step, dry}
use Rattle.search.proofs.find.find.Goals as goal

pub loop-next-init : goal.loop-next-init
loop-next-init g c =
    let sc = seen g.S.PairSource.pairs g.P.Priority.reaches c.args.view.now in
    let root = c.args.view.now.root in
    let self = place_itself {reaches = g.P.Priority.reaches} (record { total = g.met.P.Priority.total; transitive = g.met.P.Priority.transitive }) c.args.view.now.ranking.now root (within_from _ root (omega arith) (omega arith)) in
    record {
      searching = rw (c.grow.ensures.queue, c.grow.ensures.marks, c.clear.ensures.items) (begin_step sc c.fill.new.self (none_stands false _ _ (c.fill.ensures.after (λ y e. e))) (omega arith) (omega arith) self c.requires.root_new);
      capacity = omega arith;
    }

pub returns-then-is_past-clause-ended : goal.returns-then-is_past-clause-ended
returns-then-is_past-clause-ended g c =
    past_step _ _ _ _ _ (omega arith) (omega arith) (rw c.deref.ensures.value at (sym c.is_past.ensures ∙ c.if-is_past.true)) c.loop-next.invariant.searching

pub returns-in-Stopped-clause-ended : goal.returns-in-Stopped-clause-ended
returns-in-Stopped-clause-ended g c =
    let e = get_or_read_under c.loop-next.queue.items c.loop-next.next (length c.loop-next.queue.items) c.index.result.now nobody c.index.ensures (omega arith) refl in
    rw e (found_empty _ _ _ _ _ c.loop-next.invariant.searching (omega arith) (omega arith) (rw c.deref.ensures.value at (sym c.is_past.ensures ∙ c.if-is_past.false)) _ _ c.in-Stopped.ensures.looks)

pub loop-next-preserved : goal.loop-next-preserved
loop-next-preserved g c =
    let e = get_or_read_under c.loop-next.queue.items c.loop-next.next (length c.loop-next.queue.items) c.index.result.now nobody c.index.ensures (omega arith) refl in
    record {
      searching = next_step _ _ _ _ _ _ _ _ _ (omega arith) (rw c.deref.ensures.value at (sym c.is_past.ensures ∙ c.if-is_past.false)) (rw e at c.or_low-low.ensures) c.loop-next.invariant.searching c.in-Went.ensures.looks;
      capacity = omega arith;
    }

pub returns-clause-ended : goal.returns-clause-ended
returns-clause-ended g c = dry _ _ _ _ _ (omega arith) (omega arith) c.loop-next.invariant.searching
