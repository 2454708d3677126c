use Rattle.std.proofs.Common.{vec_items}
use Rattle.plan.specs.Held.{held}
use Rattle.plan.proofs.Pairing.{assigned_agree, pair_bounds}
use Rattle.plan.proofs.Plan.assign.Goals as goal

pub invariant_of-self : goal.invariant_of-self
invariant_of-self c =
    let v = c.args.self.now in
    let b = pair_bounds (held v) c.args.programme c.args.slot c.if-not-has_pair.ensures in
    let agree = assigned_agree (vec_items v.programmes.places) (vec_items v.slots.places) _ _ _ _ c.args.programme c.args.slot _ _ v.there v.back b.0 b.1 b.2 b.3 c.place-displaced.ensures c.place-vacated.ensures c.set_place.ensures.places c.set_place-2.ensures.places c.set_place-3.ensures.places c.set_place-4.ensures.places in
    record { there = agree.0; back = agree.1 }
