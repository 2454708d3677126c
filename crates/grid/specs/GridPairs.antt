-- What a grid means: its counts, and the pairs whose cells are marked.
use Rattle.std.specs.Prelude.{ℕ, ◌+◌, ◌-◌, ◌*◌, Bool, false, not, ◌&&◌, List, [], ◌∷◌, take, drop, vec_items, slice_index_or}
use Rattle.refusal.specs.Limits.{side}
use Rattle.refusal.specs.Counting.{within}
use Rattle.source.specs.Pairs.{Pairs, inside}
use Rattle.grid.specs.declared.Grid.{Grid}

-- Where the cell of (i, s) stands: one row of cells for each programme, one cell in it for each slot.
abbrev pub place : ℕ → ℕ → ℕ
place i s = (i - 1) * side + (s - 1)

-- The pair has a cell.
abbrev pub has_cell : ℕ → ℕ → Bool
has_cell i s = within side i && within side s

-- The pair has a cell, and it is marked.
abbrev pub marked : List Bool → ℕ → ℕ → Bool
marked cells i s = has_cell i s && slice_index_or cells (place i s) false

-- The row of programme i: the cells of its pairs with each of the slots.
abbrev pub row : Grid → ℕ → List Bool
row g i = take g.slots (drop (place i 1) (vec_items g.cells))

-- The pairs of a grid.
abbrev pub grid_pairs : Grid → Pairs
grid_pairs g = record { programmes = g.programmes; slots = g.slots; allowed = marked (vec_items g.cells) }

-- Mark: 10 when a number is 0 or beyond its count.
abbrev pub mark_refusals : Pairs → ℕ → ℕ → List (Bool × ℕ)
mark_refusals p i s = (not (inside p i s), 10) ∷ []
