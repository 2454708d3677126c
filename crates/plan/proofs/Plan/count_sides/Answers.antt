use Rattle.std.proofs.Common.{List, vec_items, ap, ◌∙◌}
use Rattle.plan.specs.Held.{held}
use Rattle.plan.specs.Counting.{counted_of}
use Rattle.plan.specs.Parts.{ranked}
use Rattle.plan.proofs.Asked.{tell_counts}
use Rattle.plan.proofs.Plan.count_sides.Goals as goal

pub returns-clause-told : goal.returns-clause-told
returns-clause-told g c =
    let v = c.args.self.now in
    let parts = c.args.parts.now in
    λ question other h. tell_counts (g.S.PairSource.pairs parts.source.now) (ranked parts.programmes.now) (ranked parts.slots.now) (held v) c.if-not-fits.ensures g.P.Priority.reaches v.there v.back question other _ _
    (c.count_placed-placed.ensures.exact question other h ∙ ap (λ (xs : List g.row.P.Denot). counted_of question xs (vec_items v.programmes.places) other) c.as_slice-programmes.ensures)
    (c.count_placed-filled.ensures.exact question other h ∙ ap (λ (xs : List g.row.P.Denot). counted_of question xs (vec_items v.slots.places) other) c.as_slice-slots.ensures)
