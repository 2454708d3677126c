use Rattle.std.proofs.Common.{ap, ◌∙◌}
use Rattle.plan.specs.Held.{held}
use Rattle.plan.specs.Filling.{with_slot}
use Rattle.plan.proofs.Fills.{accepted, pair_known}
use Rattle.plan.proofs.Plan.take_pair.Goals as goal

pub returns-in-Some : goal.returns-in-Some
returns-in-Some g c =
    let h = held c.args.self.now in
    let i = c.args.programme in
    let first = c.in-Some.ensures in
    (accepted c.assign.result _ _ c.assign.ensures.answer (pair_known (g.S.PairSource.pairs c.args.source.now) h i c.in-Some.slot c.requires.0 c.requires.1 first) c.assign.ensures.after).1
    ∙ ap (with_slot h i) first
