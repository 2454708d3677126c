use Rattle.std.proofs.Common.{◌≡◌, ◌*◌, length, arith}
use Rattle.refusal.specs.Limits.{side}
use Rattle.std.proofs.lemmas.Result.{err_from_is_err_and}
use Rattle.commands.proofs.Reading.{programmes_refused, slots_refused, week_read}
use Rattle.commands.proofs.week_pages.read_week.Goals as goal

pub returns-in_err-programmes : goal.returns-in_err-programmes
returns-in_err-programmes c =
    let wide : length c.deref_mut.result.now ≡ 2 * side = omega (arith, c.deref_mut.ensures.len, c.args.room.room) in
    let p = err_from_is_err_and c.from_residual-in_err-programmes.result c.from_residual-in_err-programmes.ensures.1 in
    rw (p.1, p.2) (programmes_refused c.args.bytes.now.pairs.now c.args.bytes.now.programmes.now c.args.bytes.now.slots.now _ c.in_ok-read_pairs.ensures.answer _ _ wide c.in_err-programmes.ensures.answer)

pub returns-in_err-slots : goal.returns-in_err-slots
returns-in_err-slots c =
    let wide : length c.deref_mut.result.now ≡ 2 * side = omega (arith, c.deref_mut.ensures.len, c.args.room.room) in
    let wide-2 : length c.deref_mut-2.result.now ≡ 2 * side = omega (arith, c.deref_mut-2.ensures.len, c.args.room.room) in
    let p = err_from_is_err_and c.from_residual-in_err-slots.result c.from_residual-in_err-slots.ensures.1 in
    rw (p.1, p.2) (slots_refused c.args.bytes.now.pairs.now c.args.bytes.now.programmes.now c.args.bytes.now.slots.now _ c.in_ok-read_pairs.ensures.answer _ _ wide c.in_ok-programmes.ensures.answer _ _ wide-2 c.in_err-slots.ensures.answer)

pub returns : goal.returns
returns c =
    let wide : length c.deref_mut.result.now ≡ 2 * side = omega (arith, c.deref_mut.ensures.len, c.args.room.room) in
    let wide-2 : length c.deref_mut-2.result.now ≡ 2 * side = omega (arith, c.deref_mut-2.ensures.len, c.args.room.room) in
    week_read c.args.bytes.now.pairs.now c.args.bytes.now.programmes.now c.args.bytes.now.slots.now _ c.in_ok-read_pairs.ensures.answer _ _ wide c.in_ok-programmes.ensures.answer _ _ wide-2 c.in_ok-slots.ensures.answer
