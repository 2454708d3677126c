-- Lemmas on `first_from`, the first number from k on that passes, and on loops that search for it.
use Rattle.std.proofs.Common.{◌≡◌, ℕ, zero, suc, ◌+◌, ◌-◌, ◌<◌, ◌≤◌, Bool, true, false, cond, Some, None, sym, refl, ap, ◌∙◌, ⊎_elim, arith}
use Rattle.std.proofs.lemmas.Bool.{cases_Bool, cases_lt, cases_eq}
use Rattle.refusal.specs.Counting.{first_of, first_from, count}
use Rattle.refusal.proofs.Counts.{one_if, none_if}

module _ (P : ℕ → Bool) where
  up_here : (n k : ℕ) → P k ≡ true → first_of P (suc n) k ≡ Some k
  unfolding first_of
  up_here n k e = ap (λ b. cond b (Some k) (first_of P n (suc k))) e

  up_on : (n k : ℕ) → P k ≡ false → first_of P (suc n) k ≡ first_of P n (suc k)
  unfolding first_of
  up_on n k e = ap (λ b. cond b (Some k) (first_of P n (suc k))) e

  up_none : (k : ℕ) → first_of P zero k ≡ None
  unfolding first_of
  up_none k = refl

  -- ---- the steps of a loop that searches
  pub first_end : (last k : ℕ) → last < k → first_from P last k ≡ None
  unfolding first_from
  first_end last k h = let e : suc last - k ≡ 0 = omega arith in ap (λ n. first_of P n k) e ∙ up_none k

  pub first_here : (last k : ℕ) → k ≤ last → P k ≡ true → first_from P last k ≡ Some k
  unfolding first_from
  first_here last k h p =
      let e : suc last - k ≡ suc (last - k) = omega arith in ap (λ n. first_of P n k) e ∙ up_here _ k p

  pub first_on : (last k : ℕ) → P k ≡ false → first_from P last k ≡ first_from P last (k + 1)
  unfolding first_from
  first_on last k p =
      ⊎_elim
      (λ (h : last < k). first_end last k h ∙ sym (first_end last (k + 1) (omega arith)))
      (λ (h : k ≤ last).
      let e : suc last - k ≡ suc (last - k) = omega arith in
      let f : last - k ≡ suc last - suc k = omega arith in
      let g : suc k ≡ k + 1 = omega arith in
      ap (λ n. first_of P n k) e ∙ up_on _ k p ∙ ap (λ n. first_of P n (suc k)) f ∙ ap (λ m. first_of P (suc last - m) m) g)
      (cases_lt last k)

  -- ---- what an answer tells
  up_some : (n k s : ℕ) → first_of P n k ≡ Some s → (k ≤ s) × (s < k + n) × (P s ≡ true) × ((j : ℕ) → k ≤ j → j < s → P j ≡ false)
  up_some zero k s h = let n = up_none k in let z : ◌≡◌ {A = ℕ} 0 1 = cc in absurd (omega arith)
  up_some (suc n) k s h =
      ⊎_elim
      (λ (p : P k ≡ true). let e = up_here n k p in let i : k ≡ s = cc in (omega arith, omega arith, (cc), λ j a b. absurd (omega arith)))
      (λ (p : P k ≡ false).
      let r = up_some n (suc k) s (sym (up_on n k p) ∙ h) in (
        omega (arith, r.0),
        omega (arith, r.1),
        r.2,
        λ j a b.
            ⊎_elim (λ (q : j ≡ k). ap P q ∙ p) (λ (q : j ≡ k → ⊥). r.3 j (omega arith) b) (cases_eq j k),
      ))
      (cases_Bool (P k))

  up_missing : (n k : ℕ) → first_of P n k ≡ None → (j : ℕ) → k ≤ j → j < k + n → P j ≡ false
  up_missing zero k h j a b = absurd (omega arith)
  up_missing (suc n) k h j a b =
      ⊎_elim
      (λ (p : P k ≡ true). let e = up_here n k p in let z : ◌≡◌ {A = ℕ} 0 1 = cc in absurd (omega arith))
      (λ (p : P k ≡ false).
      ⊎_elim
      (λ (q : j ≡ k). ap P q ∙ p)
      (λ (q : j ≡ k → ⊥). up_missing n (suc k) (sym (up_on n k p) ∙ h) j (omega arith) (omega arith))
      (cases_eq j k))
      (cases_Bool (P k))

  pub first_some : (last k s : ℕ) → first_from P last k ≡ Some s → (k ≤ s) × (s ≤ last) × (P s ≡ true) × ((j : ℕ) → k ≤ j → j < s → P j ≡ false)
  unfolding first_from
  first_some last k s h =
      let r = up_some (suc last - k) k s h in (r.0, omega (arith, r.0, r.1), r.2, r.3)

  pub first_none : (last k : ℕ) → first_from P last k ≡ None → (j : ℕ) → k ≤ j → j ≤ last → P j ≡ false
  unfolding first_from
  first_none last k h j a b = up_missing (suc last - k) k h j a (omega arith)

  -- ---- over numbers that do not pass
  jump : (last k d : ℕ) → ((j : ℕ) → k ≤ j → j < k + d → P j ≡ false) → first_from P last k ≡ first_from P last (k + d)
  jump last k zero f = let e : k ≡ k + 0 = omega arith in ap (first_from P last) e
  jump last k (suc d) f =
      let e : k + d + 1 ≡ k + suc d = omega arith in
      jump last k d (λ j a b. f j a (omega arith)) ∙ first_on last (k + d) (f (k + d) (omega arith) (omega arith)) ∙ ap (first_from P last) e

  pub first_jump : (last k t : ℕ) → k ≤ t → ((j : ℕ) → k ≤ j → j < t → P j ≡ false) → first_from P last k ≡ first_from P last t
  first_jump last k t h f =
      let e : k + (t - k) ≡ t = omega arith in
      jump last k (t - k) (λ j a b. f j a (omega arith)) ∙ ap (first_from P last) e

  pub first_empty : (last k : ℕ) → ((j : ℕ) → k ≤ j → j ≤ last → P j ≡ false) → first_from P last k ≡ None
  first_empty last k f =
      ⊎_elim
      (λ (h : last < k). first_end last k h)
      (λ (h : k ≤ last). first_jump last k (last + 1) (omega arith) (λ j a b. f j a (omega arith)) ∙ first_end last (last + 1) (omega arith))
      (cases_lt last k)

  -- ---- counts
  pub count_flat : (k n : ℕ) → k ≤ n → ((j : ℕ) → k < j → j ≤ n → P j ≡ false) → count P n ≡ count P k
  count_flat k zero h f = let e : k ≡ 0 = omega arith in ap (count P) (sym e)
  count_flat k (suc n) h f =
      ⊎_elim
      (λ (e : k ≡ suc n). ap (count P) (sym e))
      (λ (ne : k ≡ suc n → ⊥).
      let r : count P n ≡ count P k = count_flat k n (omega arith) (λ j a b. f j a (omega arith)) in
      let z = none_if (P (suc n)) (f (suc n) (omega arith) (omega arith)) in
      omega arith)
      (cases_eq k (suc n))

  pub count_jump : (last k s : ℕ) → 0 < k → first_from P last k ≡ Some s → count P s ≡ count P (k - 1) + 1
  count_jump last k zero h f = let r = first_some last k 0 f in absurd (omega (arith, r.0))
  count_jump last k (suc s) h f =
      let r = first_some last k (suc s) f in
      let flat : count P s ≡ count P (k - 1) = count_flat (k - 1) s (omega (arith, r.0)) (λ j a b. r.3 j (omega arith) (omega arith)) in
      let one = one_if (P (suc s)) r.2 in
      omega arith

  pub count_last : (last k : ℕ) → 0 < k → k ≤ last + 1 → first_from P last k ≡ None → count P last ≡ count P (k - 1)
  count_last last k h b f =
      count_flat (k - 1) last (omega arith) (λ j a c. first_none last k f j (omega arith) c)
