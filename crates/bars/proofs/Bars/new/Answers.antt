use Rattle.grid.specs.GridPairs.{grid_pairs}
use Rattle.bars.proofs.Barred.{none_barred}
use Rattle.bars.proofs.Bars.new.Goals as goal

pub returns-clause-pairs : goal.returns-clause-pairs
returns-clause-pairs g c = none_barred (g.S.PairSource.pairs c.args.below) (grid_pairs c.in_ok-new.field-0) _ _ c.in_ok-new.ensures.pairs
