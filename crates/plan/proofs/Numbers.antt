-- Iterators over the numbers `1..=n`: what `all` and `find` answer.
use Rattle.std.proofs.Common.{◌≡◌, ℕ, zero, suc, ◌+◌, ◌-◌, ◌<◌, Bool, true, false, List, length, get_or, Some, None, Option, Bor, sym, refl, ap, ◌∙◌, arith}
use Rattle.std.specs.declared.ops.RangeInclusive.{RangeInclusive}
use Rattle.std.specs.Range.{range_inclusive_start, range_inclusive_end, range_inclusive_exhausted, range_inclusive_len, range_inclusive_left, range_inclusive_steps}
use Rattle.std.specs.Iterator.{AlwaysYields, YieldsThen}
use Rattle.std.specs.List.{range_with_len, FoldsTo, AllWithin, HoldsAt}
use Rattle.std.specs.Fn.{Called, CalledAt}
use Rattle.std.specs.Option.{MatchOption}
use Rattle.std.specs.Bool.{MatchBool, ⊤}
use Rattle.std.proofs.lemmas.Iterator.{YieldsList, cases_from_all, first_from_find}
use Rattle.std.proofs.lemmas.List.FromFn.{length-range_with_len, get_or-range_with_len}
use Rattle.refusal.specs.Counting.{all, first_from}
use Rattle.refusal.proofs.Counts.{all_from, all_fails, within_bounds}
use Rattle.refusal.proofs.First.{first_jump, first_here, first_empty}
use denote.Param.Members.{Mut}

-- what one call of `next` does
abbrev pub Steps : RangeInclusive ℕ → Option ℕ → RangeInclusive ℕ → Type 0
Steps = range_inclusive_steps (λ a b. b - a) (λ a b. b ≡ a + 1)

abbrev pub left : RangeInclusive ℕ → ℕ
left = range_inclusive_left (λ a b. b - a)

live : (a b : ℕ) (x : Bool) → 0 < range_inclusive_len (λ a b. b - a) a b x → x ≡ false
live a b true h = absurd (omega arith)
live a b false h = refl

yields_from : (k a : ℕ) (s : RangeInclusive ℕ) → left s ≡ k → (0 < k → range_inclusive_start s ≡ a) → AlwaysYields Steps (λ x. x) s (range_with_len a k)
yields_from zero a s e f = λ x t p. omega (arith, p.1.1)
yields_from (suc k) a s e f = (
  (λ t p. omega (arith, p.1.0)),
  λ x t p. (p.1.0 ∙ f (omega arith), yields_from k (a + 1) t (omega (arith, p.1.1)) (λ h. p.1.2 (live (range_inclusive_start t) (range_inclusive_end t) (range_inclusive_exhausted t) (omega (arith, p.1.1))) ∙ ap (λ j. j + 1) (f (omega arith)))),
)

-- the range of the numbers 1 to n, before its first call
pub record Numbers (n : ℕ) (s : RangeInclusive ℕ) : Type 0 where
  pub start : range_inclusive_start s ≡ 1
  pub end : range_inclusive_end s ≡ n
  pub exhausted : range_inclusive_exhausted s ≡ false

pub yields_numbers : {n : ℕ} {s : RangeInclusive ℕ} → Numbers n s → YieldsList Steps (λ x. x) s (range_with_len 1 n)
yields_numbers {n} {s} h = record { runs = yields_from n 1 s (rw (h.start, h.end, h.exhausted) (omega arith)) (λ _. h.start) }

-- what stands at an index
at_index : (n k d : ℕ) → k < n → get_or (range_with_len 1 n) k d ≡ k + 1
at_index n k d h = get_or-range_with_len 1 n k d h ∙ omega arith

module _ {F : Type 0} {s : RangeInclusive ℕ} {n : ℕ} (u : RangeInclusive ℕ) (f : F) (test : ℕ → Bool) (start : Numbers n s) where
  all_told : (r : Bool) → MatchBool r (AllWithin (λ k. true ≡ test k) (range_with_len 1 n) 0 (length (range_with_len 1 n))) ((k : ℕ) × (k < length (range_with_len 1 n)) × HoldsAt (λ k. false ≡ test k) (range_with_len 1 n) k) → r ≡ all test n
  all_told true h =
      sym (all_from test n (λ k w.
      let b = within_bounds n k w in
      let e : get_or (range_with_len 1 n) (k - 1) 0 ≡ k = at_index n (k - 1) 0 (omega arith) ∙ omega arith in
      sym (h (k - 1) 0 (omega arith) (omega (arith, length-range_with_len 1 n)) ∙ ap test e)))
  all_told false h =
      let l : h.0 < n = omega (arith, h.1, length-range_with_len 1 n) in
      sym (all_fails test n (h.0 + 1) (omega arith) (omega arith) (sym (h.2 0 ∙ ap test (at_index n h.0 0 l))))

  pub all_of_numbers : {g : Mut F (ℕ × Unit {0}) Bool} (r : Bool)
      → (xs : List ℕ) × (o : Option ℕ) × (j : F) × YieldsThen Steps s xs o u × FoldsTo (λ p x q. Called g p (x, tt) true q) f xs j × MatchOption o (r ≡ true) (λ x. (r ≡ false) × ((h : F) × Called g j (x, tt) false h))
      → ((x : ℕ) (b : Bool) (q : F) → Called g f (x, tt) b q → (q ≡ f) × (b ≡ test x)) → r ≡ all test n
  all_of_numbers r d k = all_told r (cases_from_all u f r (λ k. true ≡ test k) (λ k. false ≡ test k) d (yields_numbers start) (λ x q c. k x true q c) (λ x q c. (k x false q c).1))

  first_told : (r : Option ℕ) → MatchOption r (AllWithin (λ k. false ≡ test k) (range_with_len 1 n) 0 (length (range_with_len 1 n))) (λ x. (true ≡ test x) × (i : ℕ) × (i < length (range_with_len 1 n)) × HoldsAt (λ y. y ≡ x) (range_with_len 1 n) i × AllWithin (λ k. false ≡ test k) (range_with_len 1 n) 0 i) → r ≡ first_from test n 1
  first_told None h =
      sym (first_empty test n 1 (λ k a b.
      let e : get_or (range_with_len 1 n) (k - 1) 0 ≡ k = at_index n (k - 1) 0 (omega arith) ∙ omega arith in
      sym (h (k - 1) 0 (omega arith) (omega (arith, length-range_with_len 1 n)) ∙ ap test e)))
  first_told (Some x) h =
      let l : h.1 < n = omega (arith, h.2, length-range_with_len 1 n) in
      let e : h.1 + 1 ≡ x = sym (at_index n h.1 0 l) ∙ h.3 0 in
      sym (first_jump test n 1 x (omega arith) (λ k a b.
      let d : get_or (range_with_len 1 n) (k - 1) 0 ≡ k = at_index n (k - 1) 0 (omega arith) ∙ omega arith in
      sym (h.4 (k - 1) 0 (omega arith) (omega arith) ∙ ap test d))
      ∙ first_here test n x (omega arith) (sym h.0))

  pub first_of_numbers : {g : Mut F (Bor ℕ × Unit {0}) Bool} (r : Option ℕ)
      → (xs : List ℕ) × (j : F) × YieldsThen Steps s xs r u × FoldsTo (λ p x q. CalledAt g p x false q) f xs j × MatchOption r ⊤ (λ x. (h : F) × CalledAt g j x true h)
      → ((x : ℕ) (b : Bool) (q : F) → CalledAt g f x b q → (q ≡ f) × (b ≡ test x)) → r ≡ first_from test n 1
  first_of_numbers r d k = first_told r (first_from_find u f r (λ k. true ≡ test k) (λ k. false ≡ test k) d (yields_numbers start) (λ x q c. (k x true q c).1) (λ x q c. k x false q c))
