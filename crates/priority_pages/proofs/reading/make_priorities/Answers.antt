use Rattle.std.proofs.Common.{◌+◌, Err, vec_items, vec_len, ap, ◌∙◌, arith}
use Rattle.std.proofs.lemmas.Result.{err_from_is_err_and}
use Rattle.refusal.specs.Tables.{at}
use Rattle.pages.specs.Stages.{given as as_given}
use Rattle.priority_pages.proofs.Rows.{made_step, made_refused}
use Rattle.priority_pages.proofs.reading.make_priorities.Goals as goal

pub returns-in_err-of_row : goal.returns-in_err-of_row
returns-in_err-of_row g c =
    let of = g.P.PagePriority in
    let p = err_from_is_err_and c.from_residual.result c.from_residual.ensures.1 in
    ap (as_given _) (p.1 ∙ ap Err p.2) ∙ made_refused of.made_of of.fits (λ i. of.numbers (at 0 c.args.table.now i) (at 0 c.args.table.now (c.args.rows + i))) c.args.rows c.loop-number.number _ (of.numbers c.entry-first.result c.entry-second.result) (omega arith) (omega arith) (cc) c.in_err-of_row.ensures

pub loop-number-preserved : goal.loop-number-preserved
loop-number-preserved g c =
    let of = g.P.PagePriority in
    let made = made_step of.made_of of.fits (λ i. of.numbers (at 0 c.args.table.now i) (at 0 c.args.table.now (c.args.rows + i))) (vec_len c.loop-number.priorities) c.loop-number.number (vec_items c.loop-number.priorities) (vec_items c.push_reserved.new.self) c.in_ok-of_row.field-0 (of.numbers c.entry-first.result c.entry-second.result) c.loop-number.invariant.made c.loop-number.invariant.next (cc) c.in_ok-of_row.ensures c.push_reserved.ensures.items in
    record { made = rw c.push_reserved.ensures.len made; next = omega arith; last = omega arith; room = omega arith }
