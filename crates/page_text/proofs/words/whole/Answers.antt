use Rattle.std.proofs.Common.{arith}
use Rattle.page_text.proofs.Numbers.{pow_under}
use Rattle.page_text.proofs.words.whole.Goals as goal

pub overflow_mul-number : goal.overflow_mul-number
overflow_mul-number c = omega (arith, pow_under _ _ c.loop-byte.invariant.1 (omega arith))

pub overflow_add-number : goal.overflow_add-number
overflow_add-number c =
    let d = c.if-not-is_ascii_digit.ensures.cases in
    omega (arith, pow_under _ _ c.loop-byte.invariant.1 (omega arith))
