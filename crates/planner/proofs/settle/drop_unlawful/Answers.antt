use Rattle.std.proofs.Common.{◌≡◌, true, false, ◌⊎◌, inl, inr, ap, ◌∙◌, arith}
use Rattle.source.specs.Pairs.{holds}
use Rattle.plan.specs.Held.{held, vacated}
use Rattle.planner.proofs.Dropping.{drop_turn, drop_end}
use Rattle.planner.proofs.settle.drop_unlawful.Goals as goal
use Rattle.planner.proofs.settle.drop_unlawful.Goals.{then-not-may_stay, else-not-may_stay}

pub loop-programme-preserved : goal.loop-programme-preserved
loop-programme-preserved g c =
    let made : ((c.may_stay.result ≡ false) × (held c.if-not-may_stay.plan ≡ vacated (held c.loop-programme.plan) c.entry-slot.result)) ⊎ ((c.may_stay.result ≡ true) × (held c.if-not-may_stay.plan ≡ held c.loop-programme.plan)) =
    elim c.if-not-may_stay.branch [
      | then-not-may_stay w ↦ inl (w.if-not-may_stay.true, ap held w.plan-is ∙ w.vacate.ensures.after)
      | else-not-may_stay w ↦ inr (w.if-not-may_stay.false, ap held w.plan-is)
    ] in
    let turn = drop_turn (holds (g.S.PairSource.pairs c.args.source.now)) (held c.args.plan.now).attendance (held c.args.plan.now).slot_of _ _ c.loop-programme.programme _ _ (omega arith) c.loop-programme.invariant.dropping c.loop-programme.invariant.attendance (rw c.slot_of_table.ensures at c.entry-slot.ensures) c.may_stay.ensures made in
    record { dropping = turn.0; attendance = turn.1 }

pub returns-after-not-may_stay : goal.returns-after-not-may_stay
returns-after-not-may_stay g c =
    let made : ((c.may_stay.result ≡ false) × (held c.if-not-may_stay.plan ≡ vacated (held c.loop-programme.plan) c.entry-slot.result)) ⊎ ((c.may_stay.result ≡ true) × (held c.if-not-may_stay.plan ≡ held c.loop-programme.plan)) =
    elim c.if-not-may_stay.branch [
      | then-not-may_stay w ↦ inl (w.if-not-may_stay.true, ap held w.plan-is ∙ w.vacate.ensures.after)
      | else-not-may_stay w ↦ inr (w.if-not-may_stay.false, ap held w.plan-is)
    ] in
    let turn = drop_turn (holds (g.S.PairSource.pairs c.args.source.now)) (held c.args.plan.now).attendance (held c.args.plan.now).slot_of _ _ c.loop-programme.programme _ _ (omega arith) c.loop-programme.invariant.dropping c.loop-programme.invariant.attendance (rw c.slot_of_table.ensures at c.entry-slot.ensures) c.may_stay.ensures made in
    record { after = drop_end _ _ _ _ _ _ _ (omega arith) turn.0 (omega arith); attendance = turn.1 }

pub returns-clause-after : goal.returns-clause-after
returns-clause-after g c = drop_end _ _ _ _ _ _ _ (omega arith) c.loop-programme.invariant.dropping (omega arith)
