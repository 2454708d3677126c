use Rattle.std.proofs.Common.{◌≡◌, ◌∙◌}
use Rattle.plan.specs.Held.{held, place_of}
use Rattle.plan.specs.Parts.{ranked}
use Rattle.plan.proofs.Asked.{tell_place, some_place}
use Rattle.plan.proofs.Plan.place_of.Goals as goal
use Rattle.plan.proofs.Plan.place_of.Goals.{in-Programme, in-Slot}

pub returns-clause-told : goal.returns-clause-told
returns-clause-told g c =
    let v = c.args.self.now in
    let parts = c.args.parts.now in
    let read : c.match-member.place ≡ place_of (held v) c.args.member = elim c.match-member.branch [
      | in-Programme w ↦ (cc)
      | in-Slot w ↦ (cc)
    ] in
    c.then_some.ensures ∙ some_place _ ∙ tell_place (g.S.PairSource.pairs parts.source.now) (ranked parts.programmes.now) (ranked parts.slots.now) (held v) c.if-not-fits.ensures g.P.Priority.reaches v.there v.back c.args.member _ read
