use Rattle.std.proofs.Common.{◌+◌, sym, ap, ◌∙◌, arith}
use Rattle.refusal.proofs.Counts.{within_from}
use Rattle.source.proofs.Making.{counts_accepted}
use Rattle.plan.specs.Held.{held, nothing}
use Rattle.plan.proofs.Fills.{accepted, taken_none, taken_step, taken_all}
use Rattle.plan.proofs.Plan.take_pairs.Goals as goal

pub loop-programme-init : goal.loop-programme-init
loop-programme-init g c =
    let p = g.S.PairSource.pairs c.args.source.now in
    let made = (accepted c.reset.result _ _ c.reset.ensures.answer (sym (counts_accepted c.programmes.result c.slots.result (omega (arith, c.programmes.ensures)) (omega (arith, c.slots.ensures)))) c.reset.ensures.after).1 in
    taken_none p (held c.reset.new.self) (made ∙ ap (λ n. nothing n c.slots.result) c.programmes.ensures ∙ ap (nothing p.programmes) c.slots.ensures)

pub take_pair-requires : goal.take_pair-requires
take_pair-requires g c =
    let t = c.loop-programme.invariant in
    ((t.programmes, t.slots), within_from _ c.loop-programme.programme c.loop-programme.auto.programme (omega (arith, c.loop-programme-test.true, c.programmes-programme-end.ensures)))

pub loop-programme-preserved : goal.loop-programme-preserved
loop-programme-preserved g c =
    taken_step (g.S.PairSource.pairs c.args.source.now) (held c.loop-programme.self) (held c.take_pair.new.self) c.loop-programme.programme c.requires.once.0 c.requires.once.1 c.loop-programme.self.back c.loop-programme.invariant c.loop-programme.auto.programme (omega (arith, c.loop-programme-test.true, c.programmes-programme-end.ensures)) c.take_pair.ensures

pub returns-2 : goal.returns-2
returns-2 g c =
    let p = g.S.PairSource.pairs c.args.source.now in
    taken_all p (held c.take_pair.new.self) (c.loop-programme.programme + 1)
    (taken_step p (held c.loop-programme.self) (held c.take_pair.new.self) c.loop-programme.programme c.requires.once.0 c.requires.once.1 c.loop-programme.self.back c.loop-programme.invariant c.loop-programme.auto.programme (omega (arith, c.loop-programme-test.true, c.programmes-programme-end.ensures)) c.take_pair.ensures)
    (omega (arith, c.programmes-programme-end.ensures))
