use Rattle.std.proofs.Common.{◌≡◌, ℕ, ap, sym, ◌∙◌, subst, arith}
use Rattle.std.proofs.lemmas.Bool.{and_from}
use Rattle.refusal.proofs.Counts.{within_from}
use Rattle.plan.specs.Held.{Held, held}
use Rattle.search.specs.Search.{who}
use Rattle.search.proofs.Agreement.{Moved, plan_agrees, vacate_frees, assign_moves}
use Rattle.search.proofs.Flipping.{start_walk, walk_step, last_step, prog_in}
use Rattle.search.proofs.flip.flip.Goals as goal

pub loop-place-init : goal.loop-place-init
loop-place-init c =
    let sh = c.requires.shape in
    let ag = plan_agrees c.args.plan.now in
    record {
      walking = start_walk _ _ c.args.queue.now c.args.end.from c.args.end.slot ag sh _ _ (vacate_frees (held c.args.plan.now) (held c.vacate.new.self) ag c.args.end.slot sh.slot.0 sh.slot.1 c.vacate.ensures.after);
      attendance = ap (λ (h : Held). h.attendance) c.vacate.ensures.after;
    }

pub move_to-requires : goal.move_to-requires
move_to-requires c =
    let w = c.loop-place.invariant.walking in
    let b = prog_in _ _ c.args.queue.now c.args.end.from c.args.end.slot (plan_agrees c.args.plan.now) c.requires.shape c.loop-place.place w.within in
    and_from _ _ (within_from _ _ (c.requires.shape.number c.loop-place.place w.within) (omega (arith, w.slot_len))) (within_from _ _ w.slot.0 (omega (arith, w.slot.1, w.member_len)))

pub loop-place-preserved : goal.loop-place-preserved
loop-place-preserved c =
    let now = held c.loop-place.plan in
    let next = held c.move_to.new.plan in
    let ag = plan_agrees c.args.plan.now in
    let sh = c.requires.shape in
    let w = c.loop-place.invariant.walking in
    let b = prog_in _ _ c.args.queue.now c.args.end.from c.args.end.slot ag sh c.loop-place.place w.within in
    let mv = assign_moves now next w.agrees (who c.args.queue.now c.loop-place.place) c.loop-place.slot (sh.number c.loop-place.place w.within) (omega (arith, w.slot_len)) w.slot.0 (omega (arith, w.slot.1, w.member_len)) w.empty c.move_to.ensures in
    record {
      walking = walk_step _ _ c.args.queue.now c.args.end.from c.args.end.slot ag sh _ _ c.loop-place.slot c.loop-place.place w _ _ mv (omega arith);
      attendance = ap (λ (h : Held). h.attendance) c.move_to.ensures ∙ c.loop-place.invariant.attendance;
    }

pub returns-clause-after : goal.returns-clause-after
returns-clause-after c =
    let sh = c.requires.shape in
    let now = held c.loop-place.plan in
    let next = held c.move_to-2.new.plan in
    let w = c.loop-place.invariant.walking in
    let z : c.loop-place.place ≡ 0 = c.loop-place-test.false in
    let mv = assign_moves now next w.agrees (who c.args.queue.now 0) c.loop-place.slot (sh.number 0 (omega arith)) (omega (arith, w.slot_len, sh.root)) w.slot.0 (omega (arith, w.slot.1, w.member_len)) w.empty c.move_to-2.ensures in
    let mv_place = subst (λ (j : ℕ). Moved (who c.args.queue.now j) c.loop-place.slot now.slot_of now.programme_in next.slot_of next.programme_in) (sym z) mv in
    last_step _ _ c.args.queue.now c.args.end.from c.args.end.slot (plan_agrees c.args.plan.now) sh _ _ c.loop-place.slot c.loop-place.place w _ _ mv_place z
