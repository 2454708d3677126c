-- What bars over a source mean.
use Rattle.source.specs.Pairs.{Pairs, holds, layered}
use Rattle.grid.specs.GridPairs.{grid_pairs}
use Rattle.grid.specs.declared.Grid.{Grid}

-- The pairs of the source below, cut to the most that a side may have, less those that the grid of barred pairs holds.
abbrev pub barred_pairs : Pairs → Grid → Pairs
barred_pairs below barred = layered below (holds (grid_pairs barred))
