use Rattle.std.proofs.Common.{vec_items}
use Rattle.plan.proofs.Pairing.{vacated_agree}
use Rattle.plan.proofs.Plan.vacate.Goals as goal

pub invariant_of-self : goal.invariant_of-self
invariant_of-self c =
    let v = c.args.self.now in
    let agree = vacated_agree (vec_items v.programmes.places) (vec_items v.slots.places) _ _ c.args.slot _ v.there v.back c.place-displaced.ensures c.set_place.ensures.places c.set_place-2.ensures.places in
    record { there = agree.0; back = agree.1 }
