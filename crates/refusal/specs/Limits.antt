-- How many programmes and slots there may be.
use Rattle.std.specs.Prelude.{ℕ}

-- The most programmes, and the most slots, of a week: the code's `SIDE`.
abbrev pub side : ℕ
side = 200
