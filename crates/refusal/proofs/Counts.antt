-- Lemmas on `within`, `any`, `all` and `count`, and on loops from 1 on.
use Rattle.std.proofs.Common.{◌≡◌, ℕ, zero, suc, ◌+◌, ◌<◌, ◌≤◌, Bool, true, false, cond, not, ◌&&◌, eqb, leb, ◌⊎◌, sym, refl, ap, ◌∙◌, inl, inr, ⊎_elim, add-one, arith}
use Rattle.std.proofs.lemmas.Bool.{cases_Bool, cases_eq, cases_lt, or_cases, or_left, or_right, and_parts, and_from, leb-true, le-leb, both_ways}
use Rattle.std.proofs.lemmas.Bool.Decides.{nat_tests}
use Rattle.refusal.specs.Counting.{count, any, all, within}

pub within_bounds : (n k : ℕ) → within n k ≡ true → (1 ≤ k) × (k ≤ n)
within_bounds n k h = let (a, b) = and_parts (leb 1 k) (leb k n) h in (leb-true 1 k a, leb-true k n b)

pub within_from : (n k : ℕ) → 1 ≤ k → k ≤ n → within n k ≡ true
within_from n k a b = and_from (leb 1 k) (leb k n) (le-leb 1 k a) (le-leb k n b)

pub within_none : (k : ℕ) → within 0 k ≡ true → ⊥
within_none k h = omega (arith, within_bounds 0 k h)

pub within_last : (n : ℕ) → within (suc n) (suc n) ≡ true
within_last n = within_from (suc n) (suc n) (omega arith) (omega arith)

pub within_more : (n k : ℕ) → within n k ≡ true → within (suc n) k ≡ true
within_more n k h = let b = within_bounds n k h in within_from (suc n) k b.0 (omega arith)

pub within_cases : (n k : ℕ) → within (suc n) k ≡ true → (k ≡ suc n) ⊎ (within n k ≡ true)
within_cases n k h =
    let b = within_bounds (suc n) k h in
    elim (cases_eq k (suc n)) [ inl e ↦ inl e | inr ne ↦ inr (within_from n k b.0 (omega arith)) ]

-- what any and all say
pub any_some : (f : ℕ → Bool) (n : ℕ) → any f n ≡ true → (k : ℕ) × (within n k ≡ true) × (f k ≡ true)
any_some f zero h = absurd (both_ways false refl h)
any_some f (suc n) h =
    elim (or_cases (f (suc n)) (any f n) h) [
      | inl e ↦ (suc n, within_last n, e)
      | inr e ↦ let r = any_some f n e in (r.0, within_more n r.0 r.1, r.2)
    ]

pub any_here : (f : ℕ → Bool) (n k : ℕ) → within n k ≡ true → f k ≡ true → any f n ≡ true
any_here f zero k h e = absurd (within_none k h)
any_here f (suc n) k h e =
    elim (within_cases n k h) [
      | inl last ↦ or_left (f (suc n)) (any f n) (rw last at e)
      | inr before ↦ or_right (f (suc n)) (any f n) (any_here f n k before e)
    ]

pub all_at : (f : ℕ → Bool) (n k : ℕ) → all f n ≡ true → within n k ≡ true → f k ≡ true
all_at f zero k a h = absurd (within_none k h)
all_at f (suc n) k a h =
    let (here, rest) = and_parts (f (suc n)) (all f n) a in
    elim (within_cases n k h) [ inl last ↦ rw last here | inr before ↦ all_at f n k rest before ]

pub all_from : (f : ℕ → Bool) (n : ℕ) → ((k : ℕ) → within n k ≡ true → f k ≡ true) → all f n ≡ true
all_from f zero h = refl
all_from f (suc n) h =
    and_from (f (suc n)) (all f n) (h (suc n) (within_last n)) (all_from f n (λ k w. h k (within_more n k w)))

-- counting
pub count_same : (f g : ℕ → Bool) (n : ℕ) → ((k : ℕ) → within n k ≡ true → f k ≡ g k) → count f n ≡ count g n
count_same f g zero h = refl
count_same f g (suc n) h =
    let here = h (suc n) (within_last n) in
    let rest = count_same f g n (λ k w. h k (within_more n k w)) in
    cc

-- g without y
abbrev pub without : (ℕ → Bool) → ℕ → ℕ → Bool
without g y k = g k && not (eqb k y)

pub without_other : (g : ℕ → Bool) (y k : ℕ) → (k ≡ y → ⊥) → without g y k ≡ g k
without_other g y k ne = grind (arith, nat_tests)

pub without_same : (g : ℕ → Bool) (y k : ℕ) → k ≡ y → without g y k ≡ false
without_same g y k e = grind (arith, nat_tests)

pub one_if : (b : Bool) → b ≡ true → ◌≡◌ {A = ℕ} (cond b 1 0) 1
one_if b e = rw e

pub none_if : (b : Bool) → b ≡ false → ◌≡◌ {A = ℕ} (cond b 1 0) 0
none_if b e = rw e

pub count-without : (g : ℕ → Bool) (m y : ℕ) → within m y ≡ true → g y ≡ true → count g m ≡ count (without g y) m + 1
count-without g zero y h e = absurd (within_none y h)
count-without g (suc m) y h e =
    elim (within_cases m y h) [
      | inl last ↦
          let rest : count (without g y) m ≡ count g m = count_same (without g y) g m (λ k w. without_other g y k (λ same. omega (arith, within_bounds m k w))) in
          omega (arith, one_if (g (suc m)) (rw last at e), none_if (without g y (suc m)) (without_same g y (suc m) (sym last)))
      | inr before ↦
          let here : without g y (suc m) ≡ g (suc m) = without_other g y (suc m) (λ same. omega (arith, within_bounds m y before)) in
          let rest = count-without g m y before e in
          omega (arith, ap {B = ℕ} (λ (b : Bool). cond b 1 0) here)
    ]

-- each number that f counts is tied to one that g counts, and none of those to two
pub count_relate : (f g : ℕ → Bool) (n m : ℕ) (Tied : ℕ → ℕ → Type 0) → ((x : ℕ) → within n x ≡ true → f x ≡ true → (y : ℕ) × (within m y ≡ true) × (g y ≡ true) × Tied x y) → ((x z y : ℕ) → Tied x y → Tied z y → x ≡ z) → count f n ≤ count g m
count_relate f g zero m Tied to apart = omega arith
count_relate f g (suc n) m Tied to apart =
    elim (cases_Bool (f (suc n))) [
      | inl yes-last ↦
          let (y, in-m, g-y, tied) = to (suc n) (within_last n) yes-last in
          let rest : count f n ≤ count (without g y) m = count_relate f (without g y) n m Tied
          (λ x w f-x.
          let (z, in-z, g-z, tied-z) = to x (within_more n x w) f-x in
          let other : z ≡ y → ⊥ = λ same. omega (arith, within_bounds n x w, apart x (suc n) y (rw same at tied-z) tied) in
          (z, in-z, without_other g y z other ∙ g-z, tied-z))
          apart in
          omega (arith, one_if (f (suc n)) yes-last, count-without g m y in-m g-y)
      | inr no_last ↦
          let rest = count_relate f g n m Tied (λ x w f-x. to x (within_more n x w) f-x) apart in
          omega (arith, none_if (f (suc n)) no_last)
    ]

-- ---- one more number
pub count_yes : (f : ℕ → Bool) (i : ℕ) → f (i + 1) ≡ true → count f (i + 1) ≡ count f i + 1
count_yes f i e = rw add-one (ap (λ b. count f i + cond b 1 0) (rw add-one at e))

pub count_no : (f : ℕ → Bool) (i : ℕ) → f (i + 1) ≡ false → count f (i + 1) ≡ count f i
count_no f i e = rw add-one (ap (λ b. count f i + cond b 1 0) (rw add-one at e) ∙ omega arith)

pub count_most : (f : ℕ → Bool) (n : ℕ) → count f n ≤ n
count_most f zero = omega arith
count_most f (suc n) =
    let rest = count_most f n in
    elim (cases_Bool (f (suc n))) [
      | inl e ↦ omega (arith, one_if (f (suc n)) e)
      | inr e ↦ omega (arith, none_if (f (suc n)) e)
    ]

-- ---- tests that say the same
pub same_if : (a b : Bool) → (a ≡ true → b ≡ true) → (b ≡ true → a ≡ true) → a ≡ b
same_if true b to from = sym (to refl)
same_if false true to from = from refl
same_if false false to from = refl

pub all_same : (f g : ℕ → Bool) (n : ℕ) → ((k : ℕ) → within n k ≡ true → f k ≡ g k) → all f n ≡ all g n
all_same f g n h = same_if _ _ (λ a. all_from g n (λ k w. sym (h k w) ∙ all_at f n k a w)) (λ a. all_from f n (λ k w. h k w ∙ all_at g n k a w))

pub any_none : (n : ℕ) → any (λ k. false) n ≡ false
any_none zero = refl
any_none (suc n) = any_none n

pub all_fails : (f : ℕ → Bool) (n k : ℕ) → 1 ≤ k → k ≤ n → f k ≡ false → all f n ≡ false
all_fails f n k a b e = ⊎_elim (λ (h : all f n ≡ true). absurd (both_ways (f k) e (all_at f n k h (within_from n k a b)))) (λ (h : all f n ≡ false). h) (cases_Bool (all f n))

-- ---- what a loop from 1 on has passed: every number below x passes the test
abbrev pub Passed : (ℕ → Bool) → ℕ → Type 0
Passed test x = (k : ℕ) → 1 ≤ k → k < x → test k ≡ true

pub passed_none : (f : ℕ → Bool) → Passed f 1
passed_none f k a b = absurd (omega arith)

-- a step from x on to y, over numbers that pass
pub passed_next : (f : ℕ → Bool) (x y : ℕ) → Passed f x → x ≤ y → ((j : ℕ) → x ≤ j → j < y → f j ≡ true) → f y ≡ true → Passed f (y + 1)
passed_next f x y below le between here k a b =
    ⊎_elim
    (λ (l : k < x). below k a l)
    (λ (l : x ≤ k). ⊎_elim (λ (e : k ≡ y). ap f e ∙ here) (λ (ne : k ≡ y → ⊥). between k l (omega arith)) (cases_eq k y))
    (cases_lt k x)

pub passed_more : (f : ℕ → Bool) (x : ℕ) → Passed f x → f x ≡ true → Passed f (x + 1)
passed_more f x below here = passed_next f x x below (omega arith) (λ j a b. absurd (omega arith)) here

pub passed_all : (f : ℕ → Bool) (n x : ℕ) → n < x → Passed f x → all f n ≡ true
passed_all f n x h below = all_from f n (λ k w. let b = within_bounds n k w in below k b.0 (omega arith))
