use Rattle.std.proofs.Common.{vec_items, ap, ◌∙◌, arith}
use Rattle.station.proofs.NewPile.{pile_made}
use Rattle.station.proofs.open_station.Goals as goal

pub returns : goal.returns
returns c =
    let fit = c.in_ok-fit.fit in
    let told = c.in_ok-fit.ensures in
    record {
      answer = c.new-3.ensures.answer ∙ told.answer;
      pairs = pile_made c.new-3.result c.new-2.result fit (vec_items c.args.programmes) (vec_items c.args.slots) (vec_items c.args.shut)
          c.new-3.ensures.below c.new-3.ensures.pairs c.new-2.ensures.below c.new-2.ensures.shut told.pairs
          (omega (arith, fit.counts.0, fit.programmes.ok.0, ap (λ p. p.programmes) told.pairs))
          (omega (arith, fit.counts.1, fit.slots.ok.0, ap (λ p. p.slots) told.pairs));
    }
