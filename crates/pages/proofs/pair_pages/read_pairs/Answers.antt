use Rattle.std.proofs.Common.{◌∙◌}
use Rattle.pages.proofs.PairLaws.{pairs_law}
use Rattle.pages.proofs.pair_pages.read_pairs.Goals as goal

pub returns-clause-entries : goal.returns-clause-entries
returns-clause-entries c rows columns ps m h = c.read_into.ensures.answer ∙ pairs_law c.args.page c.args.bytes.now rows columns ps m h
