use Rattle.std.proofs.Common.{sym, ◌∙◌, arith}
use Rattle.std.specs.Vec.Iter.{into_iter_items}
use Rattle.desk.specs.Moments.{meaning}
use Rattle.desk.proofs.Works.{reaches_more, reaches_worked, more_come, all_come}
use Rattle.desk.proofs.run.work.Goals as goal

pub loop-call-preserved : goal.loop-call-preserved
loop-call-preserved g c =
    let M = meaning g.S.PairSource.pairs g.P.Priority.reaches g.E.EditKind.rules in
    let came = c.in-Some.ensures.steps in
    let h = c.loop-call.invariant in
    let step = c.serve-next.ensures in
    (λ stood. let so_far = h.0 stood in let stands = step.stands so_far.0 in (stands, simp c.push_reserved.ensures.items (reaches_more M _ c.loop-call.yielded _ _ _ _ _ so_far.1 step.follows stands)), omega arith, more_come c.loop-call.yielded came.0 h.2)

pub returns : goal.returns
returns g c =
    let M = meaning g.S.PairSource.pairs g.P.Priority.reaches g.E.EditKind.rules in
    let h = c.loop-call.invariant in
    let none = c.in-None.ensures.steps in
    let e = all_come c.loop-call.yielded (into_iter_items c.loop-call.call-iterator) (omega (arith, none)) h.2 ∙ c.into_iter-call-iterator.ensures.into_iter_gives.0 in
    λ stood. simp (sym e) (reaches_worked M _ c.loop-call.yielded _ _ (h.0 stood).1)
