-- Lemmas on tables that are read by number: `at`, `put`, `item` and `holds_at`.
use Rattle.std.proofs.Common.{◌≡◌, ℕ, zero, suc, ◌-◌, ◌<◌, ◌≤◌, Bool, true, false, List, [], ◌∷◌, length, get_or, Some, None, Option, refl, ap, ◌∙◌, ⊎_elim, arith, length-set, get_or-set_other, get_or-set_same}
use borrow.Author.Rules.{get_or_read}
use Rattle.std.specs.List.{slice_get}
use Rattle.std.proofs.lemmas.List.{get_or_past, set_past}
use Rattle.std.proofs.lemmas.Option.{slice_get_read, slice_get_past}
use Rattle.std.proofs.lemmas.Bool.{cases_lt, both_ways, false≢true}
use Rattle.refusal.specs.Counting.{within}
use Rattle.refusal.specs.Tables.{at, put, item, both, holds_at}
use Rattle.refusal.proofs.Counts.{within_from}

-- ---- at

pub at_past : {X : Type 0} (d : X) (xs : List X) (k : ℕ) → (1 ≤ k → length xs < k) → at d xs k ≡ d
at_past d xs zero h = refl
at_past d xs (suc k) h = get_or_past xs k d (omega (arith, h (omega arith)))

-- a table of numbers is 0, and one of marks false, outside its numbers
pub at_within : (xs : List ℕ) (k : ℕ) → 0 < at 0 xs k → within (length xs) k ≡ true
at_within xs zero h = absurd (let z : ⊥ = omega arith in z)
at_within xs (suc k) h =
    ⊎_elim (λ (l : k < length xs). within_from (length xs) (suc k) (omega arith) (omega arith)) (λ (l : length xs ≤ k). absurd (omega (arith, get_or_past xs k 0 l))) (cases_lt k (length xs))

pub mark_within : (xs : List Bool) (k : ℕ) → at false xs k ≡ true → within (length xs) k ≡ true
mark_within xs zero h = absurd (false≢true h)
mark_within xs (suc k) h =
    ⊎_elim (λ (l : k < length xs). within_from (length xs) (suc k) (omega arith) (omega arith)) (λ (l : length xs ≤ k). absurd (both_ways _ (get_or_past xs k false l) h)) (cases_lt k (length xs))

-- ---- put
pub length-put : {X : Type 0} (xs : List X) (k : ℕ) (x : X) → length (put xs k x) ≡ length xs
length-put xs zero x = refl
length-put xs (suc k) x = length-set xs k x

pub at-put_same : {X : Type 0} (d : X) (xs : List X) (k : ℕ) (x : X) → 0 < k → k ≤ length xs → at d (put xs k x) k ≡ x
at-put_same d xs zero x h l = absurd (let z : ⊥ = omega arith in z)
at-put_same d xs (suc k) x h l = get_or-set_same xs k x d (omega arith)

pub at-put_other : {X : Type 0} (d : X) (xs : List X) (k : ℕ) (x : X) (j : ℕ) → (j ≡ k → ⊥) → at d (put xs k x) j ≡ at d xs j
at-put_other d xs zero x zero n = refl
at-put_other d xs zero x (suc j) n = refl
at-put_other d xs (suc k) x zero n = refl
at-put_other d xs (suc k) x (suc j) n = get_or-set_other xs k j x d (λ e. n (ap suc e))

pub put_past : {X : Type 0} (xs : List X) (k : ℕ) (x : X) → (1 ≤ k → length xs < k) → put xs k x ≡ xs
put_past xs zero x h = refl
put_past xs (suc k) x h = set_past xs k x (omega (arith, h (omega arith)))

-- ---- item
pub item_read : {X : Type 0} (xs : List X) (k : ℕ) (x : X) → 1 ≤ k → k ≤ length xs → x ≡ get_or xs (k - 1) x → item xs k ≡ Some x
item_read xs zero x h l e = absurd (let z : ⊥ = omega arith in z)
item_read xs (suc k) x h l e =
    let i : suc k - 1 ≡ k = omega arith in
    slice_get_read xs (length xs) k x refl (omega arith) (e ∙ ap (λ j. get_or xs j x) i)

nth_some : {X : Type 0} (xs : List X) (k : ℕ) → k < length xs → (x : X) × (slice_get xs k ≡ Some x)
nth_some [] k h = absurd (let z : ⊥ = omega arith in z)
nth_some (x ∷ xs) zero h = (x, refl)
nth_some (x ∷ xs) (suc k) h = nth_some xs k (omega arith)

pub item_some : {X : Type 0} (xs : List X) (k : ℕ) → 1 ≤ k → k ≤ length xs → (x : X) × (item xs k ≡ Some x)
item_some xs zero h l = absurd (let z : ⊥ = omega arith in z)
item_some xs (suc k) h l = nth_some xs k (omega arith)

-- ---- holds_at
pub holds_at_read : {X : Type 0} (f : X → X → Bool) (xs : List X) (a b : ℕ) (x y : X) → item xs a ≡ Some x → item xs b ≡ Some y → holds_at f xs a b ≡ f x y
holds_at_read f xs a b x y p q = ap (λ o. both f o (item xs b)) p ∙ ap (λ o. both f (Some x) o) q
