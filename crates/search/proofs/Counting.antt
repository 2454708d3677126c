-- Counting the pairs that changed.
use Rattle.std.proofs.Common.{◌≡◌, ℕ, zero, suc, ◌+◌, ◌<◌, ◌≤◌, true, not, eqb, List, [], ◌∷◌, sym, refl, ap, ◌∙◌, ⊎_elim, arith}
use Rattle.std.proofs.lemmas.Bool.{cases_eq, and_parts, not-true, eq-eqb, ne_eqb, cond-true, cond-false}
use Rattle.refusal.specs.Tables.{at}
use Rattle.search.specs.Paths.{one, apart}
use Rattle.search.specs.Changes.{gap, changes, given_slot}

pub gap_same : (a b : ℕ) → a ≡ b → gap a b ≡ 0
gap_same a b e = cond-true (eqb a b) 0 (one a + one b) (eq-eqb a b e)

pub gap_other : (a b : ℕ) → (a ≡ b → ⊥) → gap a b ≡ one a + one b
gap_other a b n = cond-false (eqb a b) 0 (one a + one b) (ne_eqb a b n)

pub one_of : (a : ℕ) → 0 < a → one a ≡ 1
one_of zero h = absurd (let z : ⊥ = omega arith in z)
one_of (suc a) h = refl

pub one_none : (a : ℕ) → a ≡ 0 → one a ≡ 0
one_none a e = ap one e

-- tables that agree at all places have no change
pub changes_none : (n : ℕ) (slot_of slot_of' : List ℕ) → ((x : ℕ) → at 0 slot_of' x ≡ at 0 slot_of x) → changes n slot_of slot_of' ≡ 0
changes_none zero slot_of slot_of' h = refl
changes_none (suc n) slot_of slot_of' h = omega (arith, changes_none n slot_of slot_of' h, gap_same (at 0 slot_of (suc n)) (at 0 slot_of' (suc n)) (sym (h (suc n))))

pub changes_same : (n : ℕ) (slot_of slot_of' slot_of'' : List ℕ) → ((x : ℕ) → x ≤ n → at 0 slot_of'' x ≡ at 0 slot_of' x) → changes n slot_of slot_of'' ≡ changes n slot_of slot_of'
changes_same zero slot_of slot_of' slot_of'' h = refl
changes_same (suc n) slot_of slot_of' slot_of'' h =
    omega (arith, changes_same n slot_of slot_of' slot_of'' (λ x l. h x (omega arith)), ap (gap (at 0 slot_of (suc n))) (h (suc n) (omega arith)))

-- one more place changed
pub changes_one : (n : ℕ) (slot_of slot_of' slot_of'' : List ℕ) (x : ℕ) → 0 < x → x ≤ n → ((y : ℕ) → (y ≡ x → ⊥) → at 0 slot_of'' y ≡ at 0 slot_of' y)
    → changes n slot_of slot_of'' + gap (at 0 slot_of x) (at 0 slot_of' x) ≡ changes n slot_of slot_of' + gap (at 0 slot_of x) (at 0 slot_of'' x)
changes_one zero slot_of slot_of' slot_of'' x h l o = absurd (let z : ⊥ = omega arith in z)
changes_one (suc n) slot_of slot_of' slot_of'' x h l o = ⊎_elim
    (λ e. let a = changes_same n slot_of slot_of' slot_of'' (λ y b. o y (λ d. omega arith)) in
    let b : gap (at 0 slot_of x) (at 0 slot_of' x) ≡ gap (at 0 slot_of (suc n)) (at 0 slot_of' (suc n)) = ap (λ k. gap (at 0 slot_of k) (at 0 slot_of' k)) e in
    let c : gap (at 0 slot_of x) (at 0 slot_of'' x) ≡ gap (at 0 slot_of (suc n)) (at 0 slot_of'' (suc n)) = ap (λ k. gap (at 0 slot_of k) (at 0 slot_of'' k)) e in
    omega arith)
    (λ e. let a = changes_one n slot_of slot_of' slot_of'' x h (omega arith) o in
    let b : gap (at 0 slot_of (suc n)) (at 0 slot_of'' (suc n)) ≡ gap (at 0 slot_of (suc n)) (at 0 slot_of' (suc n)) = ap (gap (at 0 slot_of (suc n))) (o (suc n) (λ d. e (sym d))) in
    omega arith)
    (cases_eq x (suc n))

pub gap_triangle : (a b c : ℕ) → gap a c ≤ gap a b + gap b c
gap_triangle a b c = ⊎_elim
    (λ e. omega (arith, gap_same a c e))
    (λ e. ⊎_elim
    (λ d. let f : gap a c ≡ gap b c = ap (λ k. gap k c) d in omega arith)
    (λ d. ⊎_elim
    (λ f. let g : gap a c ≡ gap a b = ap (gap a) (sym f) in omega arith)
    (λ f. omega (arith, gap_other a c e, gap_other a b d, gap_other b c f))
    (cases_eq b c))
    (cases_eq a b))
    (cases_eq a c)

-- the changes of two runs, one after the other, are no more than theirs together
pub changes_triangle : (n : ℕ) (slot_of slot_of' slot_of'' : List ℕ) → changes n slot_of slot_of'' ≤ changes n slot_of slot_of' + changes n slot_of' slot_of''
changes_triangle zero slot_of slot_of' slot_of'' = omega arith
changes_triangle (suc n) slot_of slot_of' slot_of'' =
    omega (arith, changes_triangle n slot_of slot_of' slot_of'', gap_triangle (at 0 slot_of (suc n)) (at 0 slot_of' (suc n)) (at 0 slot_of'' (suc n)))

gap_zero : (a b : ℕ) → gap a b ≡ 0 → a ≡ b
gap_zero zero zero h = refl
gap_zero zero (suc b) h = absurd (let z : ⊥ = omega (arith, gap_other zero (suc b) (λ e. omega arith)) in z)
gap_zero (suc a) b h = ⊎_elim (λ e. e) (λ e. absurd (let z : ⊥ = omega (arith, gap_other (suc a) b e) in z)) (cases_eq (suc a) b)

-- no changes: the same slot for each member
pub changes_zero : (n : ℕ) (slot_of slot_of' : List ℕ) → changes n slot_of slot_of' ≡ 0 → (x : ℕ) → x ≤ n → at 0 slot_of x ≡ at 0 slot_of' x
changes_zero zero slot_of slot_of' h x l = let z : x ≡ 0 = omega arith in ap (at 0 slot_of) z ∙ sym (ap (at 0 slot_of') z)
changes_zero (suc n) slot_of slot_of' h x l = ⊎_elim
    (λ e. ap (at 0 slot_of) e ∙ gap_zero (at 0 slot_of (suc n)) (at 0 slot_of' (suc n)) (omega arith) ∙ sym (ap (at 0 slot_of') e))
    (λ e. changes_zero n slot_of slot_of' (omega arith) x (omega arith))
    (cases_eq x (suc n))

-- pairs that do not move x give it nothing
pub given_none : (p : List (ℕ × ℕ)) (x d : ℕ) → apart x p ≡ true → given_slot p x d ≡ d
given_none [] x d h = refl
given_none (e ∷ p) x d h =
    let a = and_parts (not (eqb e.0 x)) (apart x p) h in
    cond-false (eqb e.0 x) e.1 (given_slot p x d) (not-true (eqb e.0 x) a.0) ∙ given_none p x d a.1
