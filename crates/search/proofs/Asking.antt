-- What a source's answer tells a search.
use Rattle.std.proofs.Common.{◌≡◌, ℕ, ◌<◌, ◌≤◌, Bool, true, false, Some, None, Option, sym, ⊎_elim}
use Rattle.std.proofs.lemmas.Bool.{cases_Bool, both_ways, and_parts}
use Rattle.refusal.specs.Counting.{within}
use Rattle.refusal.proofs.Counts.{within_bounds}
use Rattle.refusal.proofs.First.{first_some, first_none}
use Rattle.source.specs.Pairs.{Pairs, inside, holds, first_slot}

-- the least number from `from` on that passes the test
abbrev pub First : (ℕ → Bool) → ℕ → Option ℕ → Type 0
First f from None = (s : ℕ) → from ≤ s → f s ≡ false
First f from (Some s) = (from ≤ s) × (f s ≡ true) × ((t : ℕ) → from ≤ t → t < s → f t ≡ false)

-- a pair that is allowed lies within the counts
pub holds_within : (p : Pairs) (x s : ℕ) → holds p x s ≡ true → (0 < x) × (x ≤ p.programmes) × (0 < s) × (s ≤ p.slots)
holds_within p x s h =
    let (i, a) = and_parts (inside p x s) (p.allowed x s) h in
    let (u, v) = and_parts (within p.programmes x) (within p.slots s) i in
    let a = within_bounds p.programmes x u in
    let b = within_bounds p.slots s v in
    (a.0, a.1, b.0, b.1)

pub first_is : (p : Pairs) (x from : ℕ) (r : Option ℕ) → r ≡ first_slot p x from → First (λ s. holds p x s) from r
first_is p x from None e = λ s h.
    ⊎_elim
    (λ (yes : holds p x s ≡ true). let w = holds_within p x s yes in absurd (both_ways (holds p x s) (first_none (λ t. holds p x t) p.slots from (sym e) s h w.3) yes))
    (λ (no : holds p x s ≡ false). no)
    (cases_Bool (holds p x s))
first_is p x from (Some s) e = let r = first_some (λ t. holds p x t) p.slots from s (sym e) in (r.0, r.2, r.3)
