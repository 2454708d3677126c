use Rattle.pages.proofs.Laws.{answered_first}
use Rattle.pages.proofs.content.read_into.Goals as goal

pub returns-then-is_err-clause-first : goal.returns-then-is_err-clause-first
returns-then-is_err-clause-first g c = answered_first _ _ _ _ _ c.fill-read.ensures.answer

pub returns-else-is_err-clause-first : goal.returns-else-is_err-clause-first
returns-else-is_err-clause-first g c = answered_first _ _ _ _ _ c.fill-read.ensures.answer
