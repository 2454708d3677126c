-- Lemmas on the cells of a grid: an empty table, and one cell written.
use Rattle.std.proofs.Common.{◌≡◌, ℕ, ◌*◌, ◌<◌, ◌≤◌, Bool, true, false, cond, ◌&&◌, eqb, ◌≢◌, List, length, get_or, set, replicate, sym, ap, ◌∙◌, ⊎_elim, arith, get_or-set_other, get_or-set_same}
use mathlib.Core.Path.{fun_ext}
use lib.ListN.{length-replicate, get_or-replicate}
use Rattle.std.proofs.lemmas.Bool.{and_parts, and_from, and_right, both_ways, cases_Bool, cases_lt, eqb-true, eq-eqb}
use Rattle.std.proofs.lemmas.List.{get_or_past}
use Rattle.refusal.specs.Limits.{side}
use Rattle.refusal.specs.Counting.{within}
use Rattle.refusal.proofs.Counts.{within_bounds, within_from}
use Rattle.source.specs.Pairs.{Pairs, inside, with_pair}
use Rattle.grid.specs.GridPairs.{place, has_cell, marked}

-- ---- an empty table
unmarked : (n k : ℕ) → get_or (replicate n false) k false ≡ false
unmarked n k =
    ⊎_elim
    (λ (h : k < n). get_or-replicate n k false false h)
    (λ (h : n ≤ k). get_or_past (replicate n false) k false (simp length-replicate h))
    (cases_lt k n)

pub empty_marked : (n : ℕ) (cells : List Bool) → cells ≡ replicate n false → marked cells ≡ (λ i s. false)
empty_marked n cells e =
    fun_ext (λ i. fun_ext (λ s. and_right (has_cell i s) _ (ap (λ xs. get_or xs (place i s) false) e ∙ unmarked n (place i s))))

-- ---- one cell written
cell_bounds : (i s : ℕ) → has_cell i s ≡ true → (1 ≤ i) × (i ≤ side) × (1 ≤ s) × (s ≤ side)
cell_bounds i s h =
    let (a, b) = and_parts (within side i) (within side s) h in
    let x = within_bounds side i a in
    let y = within_bounds side s b in
    (x.0, x.1, y.0, y.1)

pub place_lt : (i s : ℕ) → has_cell i s ≡ true → place i s < side * side
place_lt i s h = omega (arith, cell_bounds i s h)

-- two pairs whose cells stand at one place are one pair
place_same : (i s j t : ℕ) → has_cell i s ≡ true → has_cell j t ≡ true → place i s ≡ place j t → (i ≡ j) × (s ≡ t)
place_same i s j t a b e = (omega (arith, cell_bounds i s a, cell_bounds j t b), omega (arith, cell_bounds i s a, cell_bounds j t b))

mark_here : (cells : List Bool) (i s : ℕ) (b : Bool) → has_cell i s ≡ true → length cells ≡ side * side → marked (set cells (place i s) b) i s ≡ b
mark_here cells i s b h len =
    ap (λ x. x && get_or (set cells (place i s) b) (place i s) false) h ∙ get_or-set_same cells (place i s) b false (omega (arith, place_lt i s h))

mark_other : (cells : List Bool) (i s : ℕ) (b : Bool) (j t : ℕ) → has_cell i s ≡ true → (eqb i j && eqb s t) ≡ false → marked (set cells (place i s) b) j t ≡ marked cells j t
mark_other cells i s b j t h ne =
    ⊎_elim
    (λ (k : has_cell j t ≡ true).
    let apart : place j t ≢ place i s = λ e.
    let same = place_same j t i s k h e in
    both_ways _ ne (and_from _ _ (eq-eqb i j (sym same.0)) (eq-eqb s t (sym same.1))) in
    ap (λ x. has_cell j t && x) (get_or-set_other cells (place i s) (place j t) b false apart))
    (λ (k : has_cell j t ≡ false). simp k)
    (cases_Bool (has_cell j t))

mark_at : (cells : List Bool) (i s : ℕ) (b : Bool) → has_cell i s ≡ true → length cells ≡ side * side → (j t : ℕ) → marked (set cells (place i s) b) j t ≡ with_pair (marked cells) i s b j t
mark_at cells i s b h len j t =
    ⊎_elim
    (λ (e : (eqb i j && eqb s t) ≡ true).
    let (x, y) = and_parts (eqb i j) (eqb s t) e in
    let p : i ≡ j = eqb-true i j x in
    let q : s ≡ t = eqb-true s t y in
    ap (λ n. marked (set cells (place i s) b) n t) (sym p) ∙ ap (λ n. marked (set cells (place i s) b) i n) (sym q) ∙ mark_here cells i s b h len ∙ sym (ap (λ c. cond c b (marked cells j t)) e))
    (λ (e : (eqb i j && eqb s t) ≡ false). mark_other cells i s b j t h e ∙ sym (ap (λ c. cond c b (marked cells j t)) e))
    (cases_Bool (eqb i j && eqb s t))

pub mark_set : (cells : List Bool) (i s : ℕ) (b : Bool) → has_cell i s ≡ true → length cells ≡ side * side → marked (set cells (place i s) b) ≡ with_pair (marked cells) i s b
mark_set cells i s b h len = fun_ext (λ j. fun_ext (λ t. mark_at cells i s b h len j t))

-- ---- pairs within the counts have a cell
pub inside_cell : (p : Pairs) (i s : ℕ) → p.programmes ≤ side → p.slots ≤ side → inside p i s ≡ true → has_cell i s ≡ true
inside_cell p i s a b h =
    let (x, y) = and_parts (within p.programmes i) (within p.slots s) h in
    let (x0, x1) = within_bounds p.programmes i x in
    let (y0, y1) = within_bounds p.slots s y in
    and_from _ _ (within_from side i x0 (omega arith)) (within_from side s y0 (omega arith))
