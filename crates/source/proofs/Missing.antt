-- Where there is no source nobody is found.
use Rattle.std.proofs.Common.{◌≡◌, ℕ, false, None, Option, refl, sym}
use Rattle.std.proofs.lemmas.Bool.{and_right}
use Rattle.refusal.proofs.First.{first_empty}
use Rattle.source.specs.Pairs.{Pairs, inside, holds, empty_pairs, first_slot, first_programme}
use Rattle.source.specs.Missing.{pairs_if_any}

module _ {S : Type 0} (pairs : S → Pairs) (source : Option S) where
  pub missing_slot : (i from : ℕ) → None ≡ source → None ≡ first_slot (pairs_if_any pairs source) i from
  missing_slot i from e = rw (← e) (sym (first_empty (λ s. holds (empty_pairs 0 0) i s) 0 from (λ s a b. and_right (inside (empty_pairs 0 0) i s) false refl)))

  pub missing_programme : (s from : ℕ) → None ≡ source → None ≡ first_programme (pairs_if_any pairs source) s from
  missing_programme s from e = rw (← e) (sym (first_empty (λ i. holds (empty_pairs 0 0) i s) 0 from (λ i a b. and_right (inside (empty_pairs 0 0) i s) false refl)))
