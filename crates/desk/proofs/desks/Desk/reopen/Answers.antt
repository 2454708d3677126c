use Rattle.std.proofs.Common.{refl}
use Rattle.desk.specs.declared.calls.Call.TheVariants.{Reopen}
use Rattle.desk.specs.Moments.{meaning}
use Rattle.desk.proofs.Steps.{standing_step}
use Rattle.desk.proofs.desks.Desk.reopen.Goals as goal

pub returns : goal.returns
returns g c =
    let changed = c.reopen-standing in
    standing_step (meaning g.S.PairSource.pairs g.P.Priority.reaches g.E.EditKind.rules) c.args.self changed.result.0 Reopen changed.result.1 changed.ensures.told refl changed.ensures.opened changed.ensures.sheet
