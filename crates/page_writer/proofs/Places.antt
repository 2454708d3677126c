-- Lemmas on the pairs of a plan's first programmes.
use Rattle.std.proofs.Common.{◌≡◌, ℕ, zero, suc, ◌-◌, ◌≤◌, true, false, add-one, List, [], ◌∷◌, ◌++◌, length, get_or, take, refl, ap, ◌∙◌, ⊎_elim, append-nil, arith}
use native.Mathlib.Nat.{sub-zero}
use Rattle.std.specs.List.{count_by}
use Rattle.std.proofs.lemmas.List.{get_or-take, length_push, length-take-le}
use Rattle.std.proofs.lemmas.List.Sums.{count_by_more_yes, count_by_more_no}
use Rattle.std.proofs.lemmas.Bool.{cases_Bool, cond-true, cond-false}
use Rattle.refusal.specs.Counting.{within}
use Rattle.page_writer.specs.PlanPage.{place_of, places}

module _ (columns : ℕ) (t : List ℕ) where
  -- a cut behind them does not touch them
  same_places : (n m : ℕ) → n ≤ m → places columns (take m t) n ≡ places columns t n
  same_places zero m h = refl
  same_places (suc n) m h =
      let e : get_or (take m t) n 0 ≡ get_or t n 0 = get_or-take m t n 0 h in
      rw e (ap (λ ps. ps ++ place_of columns t (suc n)) (same_places n m (omega arith)))

  -- how many there are
  count_places : (n : ℕ) → n ≤ length t → count_by (within columns) (take n t) ≡ length (places columns t n)
  count_places zero h = refl
  count_places (suc n) h =
      ⊎_elim
      (λ (e : within columns (get_or t n 0) ≡ true).
      let c = rw (add-one n) at (count_by_more_yes (within columns) t n 0 h e) in
      let q : places columns t (suc n) ≡ places columns t n ++ (suc n, get_or t n 0) ∷ [] = ap (λ ps. places columns t n ++ ps) (cond-true (within columns (get_or t n 0)) _ _ e) in
      omega (arith, c, ap length q, length_push (places columns t n) (suc n, get_or t n 0), count_places n (omega arith)))
      (λ (e : within columns (get_or t n 0) ≡ false).
      let c = rw (add-one n) at (count_by_more_no (within columns) t n 0 h e) in
      let q : places columns t (suc n) ≡ places columns t n = ap (λ ps. places columns t n ++ ps) (cond-false (within columns (get_or t n 0)) _ _ e) ∙ append-nil (places columns t n) in
      omega (arith, c, ap length q, count_places n (omega arith)))
      (cases_Bool (within columns (get_or t n 0)))

  -- the same, as the code cuts the list
  pub first_places : (n : ℕ) → n ≤ length t → places columns (take (n - 0) t) (length (take (n - 0) t)) ≡ places columns t n
  first_places n h = rw (sub-zero n, length-take-le n t h) (same_places n n (omega arith))

  pub first_count : (n : ℕ) → n ≤ length t → count_by (within columns) (take (n - 0) t) ≡ length (places columns t n)
  first_count n h = rw sub-zero (count_places n h)
