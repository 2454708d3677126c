-- Lemmas on a walk over the cells of a grid, along a row or down a column.
use Rattle.std.proofs.Common.{◌≡◌, ℕ, ◌+◌, ◌-◌, ◌<◌, ◌≤◌, Bool, true, false, ◌&&◌, Some, None, List, length, drop, get_or, vec_items, sym, ap, ◌∙◌, arith}
use Rattle.std.specs.List.{slice_range, position}
use Rattle.std.proofs.lemmas.Bool.{and_from}
use Rattle.std.proofs.lemmas.List.{get_or-drop, get_or-take, get_or_default, length-drop, length-take-le}
use Rattle.refusal.specs.Counting.{within, first_from}
use Rattle.refusal.proofs.Counts.{within_bounds, within_from}
use Rattle.source.proofs.Places.{place_some, place_none}
use Rattle.source.specs.Pairs.{inside, holds}
use Rattle.grid.specs.declared.Grid.{Grid}
use Rattle.grid.specs.GridPairs.{place, has_cell, marked, row, grid_pairs}
use Rattle.grid.proofs.Marks.{inside_cell}

-- A pair within the counts is allowed where its cell is marked.
pub holds_at : (g : Grid) (i s : ℕ) → inside (grid_pairs g) i s ≡ true → marked (vec_items g.cells) i s ≡ holds (grid_pairs g) i s
holds_at g i s h = ap (λ b. b && marked (vec_items g.cells) i s) (sym h)

-- A row has a cell for each slot.
pub row_length : (g : Grid) (i : ℕ) → within g.programmes i ≡ true → length (row g i) ≡ g.slots
row_length g i h =
    let bounds = within_bounds g.programmes i h in
    let fits : g.slots ≤ length (drop (place i 1) (vec_items g.cells)) =
    omega (arith, bounds.0, bounds.1, g.counts.0, g.counts.1, g.room, g.cells.ok.0, length-drop (place i 1) (vec_items g.cells)) in
    length-take-le g.slots (drop (place i 1) (vec_items g.cells)) fits

-- ---- the rest of a row, from number k on
module _ (g : Grid) (i k : ℕ) (counted : within g.programmes i ≡ true) (low : 0 < k) (cells : List Bool) (part : cells ≡ slice_range (row g i) (k - 1) (length (row g i))) (size : length cells + (k - 1) ≡ g.slots) where
  stands : (j : ℕ) (d : Bool) → j < length cells → get_or cells j d ≡ holds (grid_pairs g) i (k + j)
  stands j d h =
      let in_counts : inside (grid_pairs g) i (k + j) ≡ true = and_from _ _ counted (within_from g.slots (k + j) (omega arith) (omega arith)) in
      let has : has_cell i (k + j) ≡ true = inside_cell (grid_pairs g) i (k + j) g.counts.0 g.counts.1 in_counts in
      let at : place i 1 + (k - 1 + j) ≡ place i (k + j) = omega arith in
      get_or_default cells j d false h
      ∙ ap (λ xs. get_or xs j false) part
      ∙ get_or-take (length (row g i) - (k - 1)) (drop (k - 1) (row g i)) j false (omega (arith, row_length g i counted))
      ∙ get_or-drop (k - 1) (row g i) j false
      ∙ get_or-take g.slots (drop (place i 1) (vec_items g.cells)) (k - 1 + j) false (omega arith)
      ∙ get_or-drop (place i 1) (vec_items g.cells) (k - 1 + j) false
      ∙ ap (λ n. get_or (vec_items g.cells) n false) at
      ∙ sym (ap (λ b. b && get_or (vec_items g.cells) (place i (k + j)) false) has)
      ∙ holds_at g i (k + j) in_counts

  pub row_some : (n : ℕ) → position (λ c. c) cells ≡ Some n → first_from (holds (grid_pairs g) i) g.slots k ≡ Some (k + n)
  row_some n = place_some (λ c. c) (holds (grid_pairs g) i) g.slots k cells n stands (omega arith)

  pub row_none : position (λ c. c) cells ≡ None → first_from (holds (grid_pairs g) i) g.slots k ≡ None
  row_none = place_none (λ c. c) (holds (grid_pairs g) i) g.slots k cells stands (omega arith)
