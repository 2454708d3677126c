-- What shut hours over a source mean.
use Rattle.std.specs.Prelude.{Bool, false, List}
use Rattle.refusal.specs.Tables.{at}
use Rattle.source.specs.Pairs.{Pairs, layered}

-- The pairs of the source below, cut to the most that a side may have, except in the slots that are marked shut.
-- The marks are read by slot number, and a slot past their end is not shut.
abbrev pub except_shut : Pairs → List Bool → Pairs
except_shut below shut = layered below (λ i s. at false shut s)
