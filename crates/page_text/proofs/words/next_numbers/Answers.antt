use Rattle.std.proofs.Common.{sym, arith}
use Rattle.page_text.proofs.Numbers.{reading_more}
use Rattle.page_text.proofs.words.next_numbers.Goals as goal

pub loop-place-preserved : goal.loop-place-preserved
loop-place-preserved g c =
    reading_more c.loop-place.invariant _ _ _ (omega arith) c.in_ok-next.ensures.steps (sym c.in_ok-place.ensures)
