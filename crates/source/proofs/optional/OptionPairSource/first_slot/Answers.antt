use Rattle.std.proofs.Common.{◌∙◌}
use Rattle.source.proofs.Missing.{missing_slot}
use Rattle.source.proofs.optional.OptionPairSource.first_slot.Goals as goal

pub returns-in_err-as_ref : goal.returns-in_err-as_ref
returns-in_err-as_ref g c =
    c.from_residual.ensures ∙ missing_slot g.S.PairSource.pairs c.args.self.now c.args.programme c.args.from c.in_err-as_ref.ensures.value
