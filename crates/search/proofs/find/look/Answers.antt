use Rattle.std.proofs.Common.{◌≤◌, length, Some, None, ap, ◌∙◌, arith}
use Rattle.std.proofs.lemmas.List.{get_or_read_under}
use Rattle.search.specs.declared.queue.Reached.{Reached}
use Rattle.search.specs.Search.{nobody}
use Rattle.search.proofs.Asking.{holds_within, first_is}
use Rattle.search.proofs.Looking.{pass_step, lower_step, add_step, stop_step, end_step, has_room}
use Rattle.search.proofs.find.look.Goals as goal

pub returns-in-Empty-clause-looks : goal.returns-in-Empty-clause-looks
returns-in-Empty-clause-looks g c =
    let e = get_or_read_under c.args.queue.now.items c.args.from _ c.index.result.now nobody c.index.ensures c.requires.from_in (omega arith) in
    let f = first_is (g.S.PairSource.pairs c.args.view.now.source.now) _ _ (Some c.in-Some.slot) c.in-Some.ensures in
    stop_step _ _ _ _ _ _ _ _ (omega arith) c.loop-slot.invariant.looking c.in-Some.slot (rw e at f).1 c.in-Empty.ensures

pub grow-requires : goal.grow-requires
grow-requires g c =
    let f = c.in-Add.ensures in
    let h = has_room _ _ _ _ _ _ _ _ (omega arith) c.loop-slot.invariant.looking c.in-Some.slot c.in-Add.holder f (omega (arith, f.sits, c.requires.entries c.in-Some.slot)) in
    record { room = omega arith }

pub loop-slot-smaller : goal.loop-slot-smaller
loop-slot-smaller g c =
    let p = g.S.PairSource.pairs c.args.view.now.source.now in
    let f = first_is p _ _ (Some c.in-Some.slot) c.in-Some.ensures in
    omega (arith, f.0, (holds_within p _ c.in-Some.slot f.1).3)

pub loop-slot-preserved : goal.loop-slot-preserved
loop-slot-preserved g c =
    let l = c.loop-slot.invariant.looking in
    let s = c.in-Some.slot in
    let e = get_or_read_under c.args.queue.now.items c.args.from _ c.index.result.now nobody c.index.ensures c.requires.from_in (omega arith) in
    let f = rw e at (first_is (g.S.PairSource.pairs c.args.view.now.source.now) _ _ (Some s) c.in-Some.ensures) in
    elim c.match-verdict_on.branch [
      | goal.in-Pass w ↦ rw (w.queue-is, w.marks-is, w.lower-is) (record {
        looking = pass_step _ _ _ _ _ _ _ _ (omega arith) l s f w.in-Pass.ensures;
        capacity = c.loop-slot.invariant.capacity;
      })
      | goal.in-Lower w ↦ rw (w.queue-is, w.marks-is, w.lower-is) (record {
        looking = lower_step _ _ _ _ _ _ _ _ (omega arith) l s f w.in-Lower.ensures;
        capacity = c.loop-slot.invariant.capacity;
      })
      | goal.in-Add w ↦
          let y_in : w.in-Add.holder ≤ length c.loop-slot.marks = omega (arith, w.in-Add.ensures.sits, c.requires.entries s) in
          rw (w.queue-is, w.grow.ensures.queue, w.marks-is, w.grow.ensures.marks, w.lower-is) (record {
            looking = add_step _ _ _ _ _ _ _ _ (omega arith) l s w.in-Add.holder c.index.result.now.depth f w.in-Add.ensures y_in (ap (λ (r : Reached). r.depth) e);
            capacity = w.grow.ensures.capacity ∙ c.loop-slot.invariant.capacity;
          })
    ]

pub returns-clause-looks : goal.returns-clause-looks
returns-clause-looks g c =
    let e = get_or_read_under c.args.queue.now.items c.args.from _ c.index.result.now nobody c.index.ensures c.requires.from_in (omega arith) in
    end_step _ _ _ _ _ _ _ _ (omega arith) c.loop-slot.invariant.looking (rw e at (first_is (g.S.PairSource.pairs c.args.view.now.source.now) _ _ None c.in_default.ensures))
