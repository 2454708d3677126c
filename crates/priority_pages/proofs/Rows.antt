-- Lemmas on making priorities row by row, for any kind.
use Rattle.std.proofs.Common.{◌≡◌, ℕ, suc, ◌+◌, ◌<◌, ◌≤◌, ⊎_elim, Bool, true, false, cond, List, [], ◌∷◌, ◌++◌, map, length, Ok, Err, sym, refl, ap, ◌∙◌, add-one, arith}
use Rattle.std.proofs.lemmas.List.{map-append}
use Rattle.std.proofs.lemmas.Bool.{cases_Bool, cond-true, cond-false, and_from}
use Rattle.refusal.specs.declared.Refusal.{Refusal}
use Rattle.refusal.specs.declared.Refusal.TheVariants as no
use Rattle.refusal.specs.Counting.{all}
use Rattle.refusal.proofs.Counts.{all_fails}
use Rattle.priority_pages.specs.PriorityPages.{rows_of, all_rows}

-- the rows up to i are made, in items
pub record Made {X Y : Type 0} (value : Y → X) (test : X → Bool) (row : ℕ → X) (i : ℕ) (items : List Y) : Type 0 where
  pub good : all (λ k. test (row k)) i ≡ true
  pub same : map value items ≡ rows_of row i

module _ {X Y : Type 0} (value : Y → X) (test : X → Bool) (row : ℕ → X) where
  empty : (items : List Y) → length items ≡ 0 → items ≡ []
  empty [] e = refl
  empty (y ∷ ys) e = absurd (omega arith)

  pub made_none : (items : List Y) → length items ≡ 0 → Made value test row 0 items
  made_none items e = record { good = refl; same = ap (map value) (empty items e) }

  pub made_more : (i : ℕ) (items out : List Y) (y : Y) → Made value test row i items → test (row (i + 1)) ≡ true → value y ≡ row (i + 1) → out ≡ items ++ y ∷ [] → Made value test row (i + 1) out
  made_more i items out y m t e o =
      record {
        good = ap (all (λ k. test (row k))) (add-one i) ∙ and_from (test (row (suc i))) (all (λ k. test (row k)) i) (ap (λ k. test (row k)) (sym (add-one i)) ∙ t) m.good;
        same = ap (map value) o ∙ map-append value items (y ∷ []) ∙ ap (λ v. map value items ++ v ∷ []) e ∙ ap (λ xs. xs ++ row (i + 1) ∷ []) m.same ∙ ap (λ k. rows_of row i ++ row k ∷ []) (add-one i) ∙ sym (ap (rows_of row) (add-one i));
      }

  pub made_all : (i n : ℕ) (items : List Y) → i ≡ n → Made value test row i items → Ok (map value items) ≡ all_rows test row n
  made_all i n items e m = ap Ok m.same ∙ sym (cond-true (all (λ k. test (row k)) i) _ _ m.good) ∙ ap (all_rows test row) e

  -- one row more, made by the code
  pub made_step : (i number : ℕ) (items out : List Y) (y : Y) (r : X) → Made value test row i items → number ≡ i + 1 → r ≡ row number → Ok (value y) ≡ cond (test r) (Ok r) (Err no.ValueRange) → out ≡ items ++ y ∷ [] → Made value test row (i + 1) out
  made_step i number items out y r m n e h o =
      let at : r ≡ row (i + 1) = e ∙ ap row n in
      ⊎_elim
      (λ (t : test r ≡ true).
      let k : Ok (value y) ≡ Ok r = h ∙ cond-true (test r) _ _ t in
      let v : value y ≡ r = cc in
      made_more i items out y m (ap test (sym at) ∙ t) (v ∙ at) o)
      (λ (f : test r ≡ false). let k = h ∙ cond-false (test r) (Ok r) (Err no.ValueRange) f in absurd cc)
      (cases_Bool (test r))

  -- a row that makes none
  pub made_refused : (n number : ℕ) (e : Refusal) (r : X) → 0 < number → number ≤ n → r ≡ row number → Err e ≡ cond (test r) (Ok r) (Err no.ValueRange) → Err e ≡ all_rows test row n
  made_refused n number e r l h at k =
      ⊎_elim
      (λ (t : test r ≡ true). let q = k ∙ cond-true (test r) (Ok r) (Err no.ValueRange) t in absurd cc)
      (λ (f : test r ≡ false).
      let q = k ∙ cond-false (test r) (Ok r) (Err no.ValueRange) f in
      let w : e ≡ no.ValueRange = cc in
      ap Err w ∙ sym (cond-false (all (λ j. test (row j)) n) _ _ (all_fails (λ j. test (row j)) n number l h (ap test (sym at) ∙ f))))
      (cases_Bool (test r))
