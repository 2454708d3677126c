use Rattle.std.proofs.Common.{◌≡◌, cond, not, Some, None, ap, ◌∙◌}
use Rattle.std.proofs.lemmas.Bool.{and_parts}
use Rattle.source.specs.Pairs.{inside, holds, cut, changed, layered}
use Rattle.grid.specs.GridPairs.{grid_pairs}
use Rattle.bars.proofs.Barred.{accepted, has_place, barring}
use Rattle.bars.proofs.Bars.set_barred.Goals as goal

pub returns-clause-pairs : goal.returns-clause-pairs
returns-clause-pairs g c =
    let bars = c.args.self.now in
    let p = g.S.PairSource.pairs bars.below in
    let b = grid_pairs bars.barred in
    let i = c.args.programme in
    let s = c.args.slot in
    let (within, allowed) = and_parts (inside (cut p) i s) (p.allowed i s) c.requires in
    let place = has_place p b i s bars.room.0 bars.room.1 within in
    let written = accepted c.mark.result (grid_pairs c.mark.new.self ≡ changed b i s c.args.barred) (c.mark.ensures.answer ∙ ap (λ x. cond (not x) (Some 10) None) place) c.mark.ensures.pairs in
    ap (λ q. layered p (holds q)) written ∙ barring p b i s c.args.barred allowed place
