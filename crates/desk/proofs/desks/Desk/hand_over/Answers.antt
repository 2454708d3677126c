use Rattle.std.proofs.Common.{refl}
use Rattle.desk.specs.declared.calls.Call.TheVariants.{HandOver}
use Rattle.desk.specs.Moments.{meaning}
use Rattle.desk.proofs.Steps.{standing_step}
use Rattle.desk.proofs.desks.Desk.hand_over.Goals as goal

pub returns : goal.returns
returns g c =
    let changed = c.hand_over-standing in
    standing_step (meaning g.S.PairSource.pairs g.P.Priority.reaches g.E.EditKind.rules) c.args.self changed.result.0 HandOver changed.result.1 changed.ensures.told refl changed.ensures.opened changed.ensures.sheet
