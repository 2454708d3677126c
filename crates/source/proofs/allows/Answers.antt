use Rattle.std.proofs.Common.{◌∙◌}
use Rattle.source.proofs.Questions.{first_is}
use Rattle.source.proofs.allows.Goals as goal

pub returns-then-is_inside : goal.returns-then-is_inside
returns-then-is_inside g c =
    c.eq.ensures ∙ first_is (g.S.PairSource.pairs c.args.source.now) c.args.programme c.args.slot c.first_slot.result c.first_slot.ensures
