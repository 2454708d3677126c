use Rattle.std.proofs.Common.{◌≡◌, ◌+◌, true, false, refl, ◌<◌, Bool, cond, ◌≢◌, length, ap, ◌∙◌, arith, get_or-set_other, get_or-set_same, below_more}
use Rattle.std.specs.Int.{from_bool}
use Rattle.planner.specs.Run.{waiting}
use Rattle.planner.proofs.choose.mark_waiting.Goals as goal

byte_of : (waits : Bool) → from_bool waits ≡ cond waits 1 0
byte_of true = refl
byte_of false = refl

pub loop-i-preserved : goal.loop-i-preserved
loop-i-preserved c =
    below_more _ _
    (λ k h. let ne : k ≢ c.loop-i.i = omega arith in rw get_or-set_other (c.loop-i.invariant k h))
    (let lt : c.loop-i.i < length c.loop-i.marks = omega arith in rw get_or-set_same (c.from.ensures ∙ ap from_bool c.is_waiting.ensures ∙ byte_of (waiting c.args.present.now c.args.slot_of.now c.args.done.now (c.loop-i.i + 1))))
