use Rattle.std.proofs.Common.{◌≡◌, ◌*◌, length, take, ap, ◌∙◌, arith}
use Rattle.refusal.specs.Limits.{side}
use Rattle.std.proofs.VecSteps.Gaps.{with_items_is}
use Rattle.std.proofs.lemmas.Result.{err_from_is_err_and}
use Rattle.commands.proofs.Reading.{proof_refused, filed_read}
use Rattle.commands.proofs.filed_pages.read_filed.Goals as goal

pub returns-in_err-rows : goal.returns-in_err-rows
returns-in_err-rows c =
    let b = c.args.bytes.now in
    let wide : length c.deref_mut.result.now ≡ 2 * side = omega (arith, c.deref_mut.ensures.len, c.args.room.room) in
    let p = err_from_is_err_and c.from_residual-in_err-rows.result c.from_residual-in_err-rows.ensures.1 in
    rw (p.1, p.2) (proof_refused _ _ b.week.pairs.now b.week.programmes.now b.week.slots.now b.plan.now b.proof.now c.in_ok-week.ensures c.in_ok-read_pairs.ensures.answer _ wide _ c.in_err-rows.ensures.answer)

pub returns : goal.returns
returns c =
    let b = c.args.bytes.now in
    let wide : length c.deref_mut.result.now ≡ 2 * side = omega (arith, c.deref_mut.ensures.len, c.args.room.room) in
    filed_read _ _ b.week.pairs.now b.week.programmes.now b.week.slots.now b.plan.now b.proof.now c.in_ok-week.ensures c.in_ok-read_pairs.ensures.answer _ wide
    c.in_ok-rows.rows c.read_table.new.table _ c.in_ok-rows.ensures.answer c.read_table.ensures.after
    (c.truncate.ensures.items ∙ ap (take c.in_ok-rows.rows) (with_items_is c.args.room.entries c.read_table.new.table (c.read_table.auto.table ∙ c.deref_mut.ensures.len)))
