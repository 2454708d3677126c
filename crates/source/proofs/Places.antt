-- Lemmas on `position` in a list whose places stand for the numbers from k to last: it finds the first that passes.
use Rattle.std.proofs.Common.{◌≡◌, ℕ, ◌+◌, ◌-◌, ◌<◌, ◌≤◌, max, ltb, Bool, true, false, not, Some, None, refl, List, [], ◌∷◌, length, get_or, sym, ap, ◌∙◌, ⊎_elim, arith}
use Rattle.std.specs.List.{position, position_or_len}
use Rattle.std.proofs.lemmas.Bool.{cases_lt, lt-ltb, cond-true}
use Rattle.std.proofs.lemmas.List.Quantifiers.{position-Some}
use Rattle.std.proofs.lemmas.List.Sums.{prefix_len_passes}
use Rattle.refusal.specs.Counting.{first_from}
use Rattle.refusal.proofs.First.{first_jump, first_here, first_empty, first_end}

-- Where 0 does not pass, a search may begin at 1.
pub from_one : (test : ℕ → Bool) (last k : ℕ) → test 0 ≡ false → first_from test last (max k 1) ≡ first_from test last k
from_one test last k none = sym (first_jump test last k (max k 1) (search arith) (λ j a b. let e : j ≡ 0 = search arith in ap test e ∙ none))

off : (b : Bool) → not b ≡ true → b ≡ false
off false e = refl
off true e = sym e

module _ {X : Type 0} (p : X → Bool) (test : ℕ → Bool) (last k : ℕ) where
  -- Each item answers as its number does.
  abbrev pub Stand : List X → Type 0
  Stand xs = (j : ℕ) (d : X) → j < length xs → p (get_or xs j d) ≡ test (k + j)

  -- a number whose item does not pass
  fails : (xs : List X) (d : X) → Stand xs → (j : ℕ) → k ≤ j → j - k < length xs → p (get_or xs (j - k) d) ≡ false → test j ≡ false
  fails xs d same j a b e = let at : j ≡ k + (j - k) = omega arith in ap test at ∙ sym (same (j - k) d b) ∙ e

  pub place_some : (xs : List X) (n : ℕ) → Stand xs → length xs + k ≡ last + 1 → position p xs ≡ Some n → first_from test last k ≡ Some (k + n)
  place_some [] n same all e = let z : ◌≡◌ {A = ℕ} 0 1 = cc in absurd (omega arith)
  place_some (d ∷ ys) n same all e =
      let xs = d ∷ ys in
      let at = position-Some p xs n d e in
      first_jump test last k (k + n) (omega arith) (λ j a b. fails xs d same j a (omega (arith, at.0)) (at.2 (j - k) (omega arith)))
      ∙ first_here test last (k + n) (omega (arith, at.0)) (sym (same n d at.0) ∙ at.1)

  pub place_none : (xs : List X) → Stand xs → length xs + k ≡ last + 1 → position p xs ≡ None → first_from test last k ≡ None
  place_none [] same all e = first_end test last k (omega arith)
  place_none (d ∷ ys) same all e =
      let xs = d ∷ ys in
      first_empty test last k (λ j a b.
      ⊎_elim
      (λ (h : position_or_len p xs < length xs).
      let found = cond-true (ltb (position_or_len p xs) (length xs)) (Some (position_or_len p xs)) None (lt-ltb _ _ h) in absurd cc)
      (λ (h : length xs ≤ position_or_len p xs).
      fails xs d same j a (omega arith) (off _ (prefix_len_passes (λ x. not (p x)) xs (j - k) d (omega arith))))
      (cases_lt (position_or_len p xs) (length xs)))
