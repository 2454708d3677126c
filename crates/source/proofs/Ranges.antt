-- Lemmas on `find` over a range: it finds the first number that passes.
use Rattle.std.proofs.Common.{◌≡◌, ℕ, suc, ◌+◌, ◌-◌, ◌<◌, ◌≤◌, Bool, true, false, cond, List, [], ◌∷◌, Some, None, Option, IfSome, sym, ap, subst, ◌∙◌, ⊎_elim, arith}
use Rattle.std.specs.Fn.{CalledAt}
use Rattle.std.specs.Iterator.{YieldsThen, FindsItem}
use Rattle.std.specs.List.{FoldsTo}
use Rattle.std.specs.Range.{range_inclusive_len, range_inclusive_start, range_inclusive_end, range_inclusive_exhausted}
use Rattle.std.specs.declared.ops.Range.{Range}
use Rattle.std.specs.declared.ops.RangeInclusive.{RangeInclusive}
use Rattle.std.proofs.lemmas.Bool.{cases_Bool}
use Rattle.std.proofs.iter.runs.Sources.{nat_range_inclusive_steps}
use Rattle.std.proofs.iter.Yields.{nat_range_steps}
use denote.Param.Members.{Mut}
use denote.Ref.{Bor}
use Rattle.refusal.specs.Counting.{first_of, first_from}

-- how many numbers a range has left
abbrev left : RangeInclusive ℕ → ℕ
left s = range_inclusive_len (λ x y. y - x) (range_inclusive_start s) (range_inclusive_end s) (range_inclusive_exhausted s)

-- the same of a range without its end
abbrev span : Range ℕ → ℕ
span s = s.end - s.start

module _ (test : ℕ → Bool) where
  here : (n k : ℕ) → true ≡ test k → Some k ≡ first_of test (suc n) k
  unfolding first_of
  here n k e = ap (λ b. cond b (Some k) (first_of test n (suc k))) e

  on : (n k : ℕ) → false ≡ test k → first_of test n (suc k) ≡ first_of test (suc n) k
  unfolding first_of
  on n k e = ap (λ b. cond b (Some k) (first_of test n (suc k))) e

  none_left : (n k : ℕ) → n ≡ 0 → None ≡ first_of test n k
  unfolding first_of
  none_left n k e = ap (λ m. first_of test m k) (sym e)

  moved : (s : RangeInclusive ℕ) (k : ℕ) → (range_inclusive_exhausted s ≡ false → range_inclusive_start s ≡ k + 1) → first_of test (left s) (range_inclusive_start s) ≡ first_of test (left s) (suc k)
  moved s k next =
      ⊎_elim
      (λ (over : range_inclusive_exhausted s ≡ true).
      let none : left s ≡ 0 = ap (range_inclusive_len (λ x y. y - x) (range_inclusive_start s) (range_inclusive_end s)) over in
      sym (none_left (left s) (range_inclusive_start s) none) ∙ none_left (left s) (suc k) none)
      (λ (more : range_inclusive_exhausted s ≡ false). let e : range_inclusive_start s ≡ suc k = omega (arith, next more) in ap (first_of test (left s)) e)
      (cases_Bool (range_inclusive_exhausted s))

-- a closure that answers the test, and stays as it is
module _ {F : Type 0} (g : Mut F (Bor ℕ × Unit {0}) Bool) (test : ℕ → Bool) (f : F) (answers : (x : ℕ) (b : Bool) (q : F) → CalledAt g f x b q → (q ≡ f) × (b ≡ test x)) where
  steps_found : (xs : List ℕ) (s u : RangeInclusive ℕ) (r : Option ℕ) (q : F) → YieldsThen nat_range_inclusive_steps s xs r u → FoldsTo (λ p x q. CalledAt g p x false q) f xs q → IfSome r (λ x. (h : F) × CalledAt g q x true h) → r ≡ first_of test (left s) (range_inclusive_start s)
  steps_found [] s u None q y fold last = none_left test (left s) (range_inclusive_start s) (ap left y.1 ∙ y.2.1.0)
  steps_found [] s u (Some x) q y fold last =
      let passes = answers x true last.0 (subst (λ (p : F). CalledAt g p x true last.0) (sym fold) last.1) in
      let at : x ≡ range_inclusive_start s = y.2.1.0 ∙ ap range_inclusive_start (sym y.1) in
      let long : suc (left u) ≡ left s = omega (arith, ap left y.1, y.2.1.1) in
      here test (left u) x passes.1 ∙ ap (first_of test (suc (left u))) at ∙ ap (λ n. first_of test n (range_inclusive_start s)) long
  steps_found (x ∷ xs) s u r q y fold last =
      let (t, (next, step, rest), end) = y in
      let fails = answers x false fold.0 fold.1 in
      let later = steps_found xs next u r q (t, rest, end) (subst (λ (p : F). FoldsTo (λ p x q. CalledAt g p x false q) p xs q) fails.0 fold.2) last in
      let long : suc (left next) ≡ left s = omega (arith, step.1.1) in
      let at : x ≡ range_inclusive_start s = step.1.0 in
      later ∙ moved test next (range_inclusive_start s) step.1.2
      ∙ on test (left next) (range_inclusive_start s) (fails.1 ∙ ap test at)
      ∙ ap (λ n. first_of test n (range_inclusive_start s)) long

  pub range_found : (s u : RangeInclusive ℕ) (r : Option ℕ) (k last : ℕ) → range_inclusive_start s ≡ k → range_inclusive_end s ≡ last → range_inclusive_exhausted s ≡ false → FindsItem nat_range_inclusive_steps g s f r u → r ≡ first_from test last k
  unfolding first_from
  range_found s u r k last a b more found =
      let long : left s ≡ suc last - k = omega (arith, ap (range_inclusive_len (λ x y. y - x) (range_inclusive_start s) (range_inclusive_end s)) more) in
      steps_found found.0 s u r found.1 found.2 found.3 found.4 ∙ ap (λ n. first_of test n (range_inclusive_start s)) long ∙ ap (first_of test (suc last - k)) a

-- The same over a range without its end, of the numbers low to last; what the closure answers elsewhere does not matter.
module _ {F : Type 0} (g : Mut F (Bor ℕ × Unit {0}) Bool) (test : ℕ → Bool) (f : F) (low last : ℕ) (answers : (x : ℕ) (b : Bool) (q : F) → low ≤ x → x ≤ last → CalledAt g f x b q → (q ≡ f) × (b ≡ test x)) where
  span_steps : (xs : List ℕ) (s u : Range ℕ) (r : Option ℕ) (q : F) → low ≤ s.start → s.end ≡ last + 1 → YieldsThen nat_range_steps s xs r u → FoldsTo (λ p x q. CalledAt g p x false q) f xs q → IfSome r (λ x. (h : F) × CalledAt g q x true h) → r ≡ first_of test (span s) s.start
  span_steps [] s u None q a b y fold stop = none_left test (span s) s.start (ap span y.1 ∙ y.2.1.0)
  span_steps [] s u (Some x) q a b y fold stop =
      let at : x ≡ s.start = y.2.1.1 ∙ ap (λ (k : Range ℕ). k.start) (sym y.1) in
      let more : 0 < span s = omega (arith, ap span y.1, y.2.1.0) in
      let passes = answers x true stop.0 (omega arith) (omega arith) (subst (λ (p : F). CalledAt g p x true stop.0) (sym fold) stop.1) in
      let long : suc (span s - 1) ≡ span s = omega arith in
      here test (span s - 1) x passes.1 ∙ ap (first_of test (suc (span s - 1))) at ∙ ap (λ n. first_of test n s.start) long
  span_steps (x ∷ xs) s u r q a b y fold stop =
      let (t, (next, step, rest), end) = y in
      let fails = answers x false fold.0 (omega (arith, step.1.1)) (omega (arith, step.1.0, step.1.1)) fold.1 in
      let moves : next.start ≡ suc s.start = omega (arith, step.1.2) in
      let later = span_steps xs next u r q (omega arith) (omega (arith, step.0)) (t, rest, end) (subst (λ (p : F). FoldsTo (λ p x q. CalledAt g p x false q) p xs q) fails.0 fold.2) stop in
      let long : suc (span next) ≡ span s = omega (arith, step.0, step.1.0, step.1.2) in
      later ∙ ap (first_of test (span next)) moves
      ∙ on test (span next) s.start (fails.1 ∙ ap test step.1.1)
      ∙ ap (λ n. first_of test n s.start) long

  pub span_found : (s u : Range ℕ) (r : Option ℕ) → s.start ≡ low → s.end ≡ last + 1 → FindsItem nat_range_steps g s f r u → r ≡ first_from test last low
  unfolding first_from
  span_found s u r a b found =
      let long : span s ≡ suc last - low = omega (arith, a, b) in
      span_steps found.0 s u r found.1 (omega (arith, a)) b found.2 found.3 found.4 ∙ ap (λ n. first_of test n s.start) long ∙ ap (first_of test (suc last - low)) a
