use Rattle.page_text.specs.Bytes.{words}
use Rattle.page_text.proofs.Numbers.{Reading}
use Rattle.page_text.proofs.words.next_numbers.Given as goal

abbrev pub invariant-loop-place : goal.invariant-loop-place
invariant-loop-place g l = Reading g.row.K (words l.initial.text.rest.now) l.place-items l.place-index (words l.text.rest.now)
