use Rattle.std.proofs.Common.{subst, ◌∙◌, sym, arith}
use Rattle.refusal.proofs.Counts.{within_bounds}
use Rattle.plan.specs.Held.{held}
use Rattle.search.specs.Scene.{Scene}
use Rattle.search.specs.Paths.{Found}
use Rattle.search.specs.Outcomes.{scene_of}
use Rattle.search.proofs.Parts.{fit_parts, entries_fit, scene_is, end_shape}
use Rattle.search.proofs.improve.improve.Goals as goal

pub find-requires-clause-entries : goal.find-requires-clause-entries
find-requires-clause-entries g c =
    let plan = c.args.plan.now in
    let fit = fit_parts (g.S.PairSource.pairs c.args.source.now) c.args.ranking.now (held plan) (sym c.fits.ensures ∙ c.if-not-fits.false) in
    entries_fit plan _ _ c.programme_in_table.ensures (omega (arith, plan.programmes.few, plan.programmes.places.ok.0, c.args.space.now.len))

pub flip-requires : goal.flip-requires
flip-requires g c =
    let plan = held c.args.plan.now in
    let pairs = g.S.PairSource.pairs c.args.source.now in
    let S = scene_of g.P.Priority.reaches pairs c.args.ranking.now plan c.args.names.now c.args.root in
    let found = subst (λ (z : Scene). Found z c.find.new.queue.items c.in-Some.end.from c.in-Some.end.slot c.in-Some.end.pairs) (scene_is S _ _ c.slots_present.ensures c.programme_in_table.ensures) c.in-Some.ensures.ended in
    record {
      shape = rw c.deref.ensures.value (end_shape g.P.Priority.reaches pairs c.args.ranking.now plan c.args.names.now c.args.root c.find.new.queue.items c.in-Some.end.from c.in-Some.end.slot (sym c.fits.ensures ∙ c.if-not-fits.false) (within_bounds _ _ (sym c.is_within.ensures ∙ c.if-not-is_within.false)).1 (rw c.slot_of_table.ensures at (sym c.entry.ensures ∙ c.if-entry-ne0.false)) found.path);
    }
