use Rattle.std.proofs.Common.{◌∙◌}
use Rattle.source.proofs.Missing.{missing_programme}
use Rattle.source.proofs.optional.OptionPairSource.first_programme.Goals as goal

pub returns-in_err-as_ref : goal.returns-in_err-as_ref
returns-in_err-as_ref g c =
    c.from_residual.ensures ∙ missing_programme g.S.PairSource.pairs c.args.self.now c.args.slot c.args.from c.in_err-as_ref.ensures.value
