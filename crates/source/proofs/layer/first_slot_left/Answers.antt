use Rattle.std.proofs.Common.{◌∙◌, arith}
use Rattle.source.proofs.Questions.{first_slot_found}
use Rattle.source.proofs.Layers.{layer_here, layer_on, layer_beyond, layer_end, layer_outside}
use Rattle.source.proofs.layer.first_slot_left.Goals as goal

pub returns-then-programme-gt-SIDE : goal.returns-then-programme-gt-SIDE
returns-then-programme-gt-SIDE g c =
    layer_outside (g.S.PairSource.pairs c.args.below.now) (g.E.Exclusion.excluded c.args.out.now) c.args.programme c.args.from (omega arith)

pub loop-slot-smaller : goal.loop-slot-smaller
loop-slot-smaller g c =
    let found = first_slot_found (g.S.PairSource.pairs c.args.below.now) c.args.programme c.loop-slot.next c.in-Some.slot c.in-Some.ensures in
    omega (arith, found.0, found.1)

pub returns-then-slot-gt-SIDE : goal.returns-then-slot-gt-SIDE
returns-then-slot-gt-SIDE g c =
    layer_beyond (g.S.PairSource.pairs c.args.below.now) (g.E.Exclusion.excluded c.args.out.now) c.args.programme c.loop-slot.next c.in-Some.slot (omega arith) c.in-Some.ensures ∙ c.loop-slot.invariant

pub returns-then-not-excludes : goal.returns-then-not-excludes
returns-then-not-excludes g c =
    layer_here (g.S.PairSource.pairs c.args.below.now) (g.E.Exclusion.excluded c.args.out.now) c.args.programme c.loop-slot.next c.in-Some.slot (omega arith) (omega arith) c.in-Some.ensures c.if-not-excludes.ensures ∙ c.loop-slot.invariant

pub loop-slot-preserved : goal.loop-slot-preserved
loop-slot-preserved g c =
    layer_on (g.S.PairSource.pairs c.args.below.now) (g.E.Exclusion.excluded c.args.out.now) c.args.programme c.loop-slot.next c.in-Some.slot c.in-Some.ensures c.if-not-excludes.ensures ∙ c.loop-slot.invariant

pub returns : goal.returns
returns g c =
    layer_end (g.S.PairSource.pairs c.args.below.now) (g.E.Exclusion.excluded c.args.out.now) c.args.programme c.loop-slot.next c.in_default.ensures ∙ c.loop-slot.invariant
