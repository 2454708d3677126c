use Rattle.std.proofs.Common.{arith}
use Rattle.source.proofs.Questions.{first_slot_found, count_found, count_done}
use Rattle.source.proofs.count_slots.Goals as goal

pub loop-slot-smaller : goal.loop-slot-smaller
loop-slot-smaller g c =
    let found = first_slot_found (g.S.PairSource.pairs c.args.source.now) c.args.programme c.loop-slot.from c.in-Some.slot c.in-Some.ensures in
    omega (arith, found.0, found.1)

pub loop-slot-preserved : goal.loop-slot-preserved
loop-slot-preserved g c =
    let p = g.S.PairSource.pairs c.args.source.now in
    let found = first_slot_found p c.args.programme c.loop-slot.from c.in-Some.slot c.in-Some.ensures in
    let (positive, within, counted, fewer, small) = c.loop-slot.invariant in (
      omega arith,
      omega (arith, found.1),
      count_found p c.args.programme c.loop-slot.from c.in-Some.slot c.loop-slot.slots positive counted c.in-Some.ensures,
      omega (arith, found.0),
      omega arith,
    )

pub returns : goal.returns
returns g c =
    let (positive, within, counted, fewer, small) = c.loop-slot.invariant in
    count_done (g.S.PairSource.pairs c.args.source.now) c.args.programme c.loop-slot.from c.loop-slot.slots positive within counted c.in_default.ensures
