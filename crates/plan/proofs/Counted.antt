-- How many have a place, counted over the two tables of a side at once.
use Rattle.std.proofs.Common.{◌≡◌, ℕ, suc, ◌+◌, ◌<◌, Bool, true, false, not, ◌&&◌, eqb, ◌≢◌, ◌⊎◌, List, [], ◌∷◌, ◌++◌, length, get_or, min, Some, sym, refl, ap, ◌∙◌, ⊎_elim, add-one, length-append, arith}
use Rattle.std.proofs.lemmas.Bool.{and_from, and_left, and_right, not_from_false, not_from_true, ne_eqb, eq-eqb}
use Rattle.std.proofs.lemmas.Option.{slice_get_read}
use Rattle.refusal.specs.Counting.{count}
use Rattle.refusal.specs.Tables.{at, item, both}
use Rattle.refusal.proofs.Counts.{count_yes, count_no}
use Rattle.refusal.proofs.Entries.{at_past}
use Rattle.refusal.proofs.First.{count_flat}
use Rattle.plan.specs.Counting.{counts_in}

module _ {P : Type 0} (xs : List P) (places : List ℕ) (question : P → P → Bool) (other : P) where
  abbrev test : ℕ → Bool
  test = counts_in question xs places other

  -- what the test says of one pair of entries
  test_next : (k : ℕ) (x : P) (y : ℕ) → k < length xs → x ≡ get_or xs k x → y ≡ get_or places k 0 → test (k + 1) ≡ (not (eqb y 0) && question x other)
  test_next k x y l a b =
      rw add-one (ap (λ o. not (eqb (at 0 places (suc k)) 0) && both question o (Some other)) (slice_get_read xs (length xs) k x refl l a)
      ∙ ap (λ n. not (eqb n 0) && question x other) (sym b))

  module _ {A : Type 0} (ys : List A) (a : A) (x : P) (y : ℕ) (turn : (length ys < length xs) × (length ys < length places) × ((d : P) → x ≡ get_or xs (length ys) d) × ((d : ℕ) → y ≡ get_or places (length ys) d)) (counted : ℕ) (so_far : counted ≡ count test (length ys)) where
    long : length (ys ++ a ∷ []) ≡ length ys + 1
    long = length-append ys (a ∷ [])

    here : test (length ys + 1) ≡ (not (eqb y 0) && question x other)
    here = test_next (length ys) x y turn.0 (turn.2 x) (turn.3 0)

    pub counted_more : y ≢ 0 → true ≡ question x other → counted + 1 ≡ count test (length (ys ++ a ∷ []))
    counted_more ne e =
        ap (λ n. n + 1) so_far ∙ sym (count_yes test (length ys) (here ∙ and_from _ _ (not_from_false _ (ne_eqb y 0 ne)) (sym e))) ∙ ap (count test) (sym long)

    pub counted_on : (y ≡ 0) ⊎ (false ≡ question x other) → counted ≡ count test (length (ys ++ a ∷ []))
    counted_on h = so_far ∙ sym (count_no test (length ys) (here ∙ fails h)) ∙ ap (count test) (sym long)
      where
        fails : (y ≡ 0) ⊎ (false ≡ question x other) → (not (eqb y 0) && question x other) ≡ false
        fails h = ⊎_elim (λ (z : y ≡ 0). and_left _ _ (not_from_true _ (eq-eqb y 0 z))) (λ (f : false ≡ question x other). and_right _ _ (sym f)) h

  -- past the shorter table there is nobody to count
  pub counted_all : (k counted : ℕ) → k ≡ min (length xs) (length places) → counted ≡ count test k → counted ≡ count test (length xs)
  counted_all k counted e so_far =
      so_far ∙ sym (count_flat test k (length xs) (omega arith) (λ j a b. ap (λ n. not (eqb n 0) && both question (item xs j) (Some other)) (at_past 0 places j (λ _. omega arith))))
