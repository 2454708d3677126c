-- Lemmas on what a source is asked: its counts, and its first slots.
use Rattle.std.proofs.Common.{◌≡◌, ℕ, ◌+◌, ◌-◌, ◌<◌, ◌≤◌, true, false, eqb, Some, None, Option, sym, ap, ◌∙◌, ⊎_elim, arith}
use Rattle.std.specs.Option.{option_eq}
use Rattle.std.proofs.lemmas.Bool.{and_parts, cases_Bool, cases_eq, eq-eqb, ne_eqb}
use Rattle.refusal.specs.Counting.{count}
use Rattle.refusal.proofs.Counts.{within_bounds}
use Rattle.refusal.proofs.First.{first_some, first_none, count_jump, count_last}
use Rattle.source.specs.Pairs.{Pairs, inside, holds, first_slot}

pub inside_programme : (p : Pairs) (i s : ℕ) → inside p i s ≡ true → (1 ≤ i) × (i ≤ p.programmes)
inside_programme p i s h = within_bounds p.programmes i (and_parts _ _ h).0

pub inside_slot : (p : Pairs) (i s : ℕ) → inside p i s ≡ true → (1 ≤ s) × (s ≤ p.slots)
inside_slot p i s h = within_bounds p.slots s (and_parts _ _ h).1

-- what the first slot from k on tells: it is allowed, and none from k on is before it
pub first_slot_found : (p : Pairs) (i k t : ℕ) → Some t ≡ first_slot p i k → (k ≤ t) × (t ≤ p.slots) × (holds p i t ≡ true) × ((j : ℕ) → k ≤ j → j < t → holds p i j ≡ false)
first_slot_found p i k t e = first_some (holds p i) p.slots k t (sym e)

pub no_slot_found : (p : Pairs) (i k : ℕ) → None ≡ first_slot p i k → (j : ℕ) → k ≤ j → j ≤ p.slots → holds p i j ≡ false
no_slot_found p i k e = first_none (holds p i) p.slots k (sym e)

-- the first slot from s on is s exactly where the pair is allowed
pub first_is : (p : Pairs) (i s : ℕ) (found : Option ℕ) → found ≡ first_slot p i s → option_eq eqb found (Some s) ≡ holds p i s
first_is p i s (Some t) e =
    let r = first_slot_found p i s t e in
    ⊎_elim
    (λ (same : t ≡ s). eq-eqb t s same ∙ sym (ap (holds p i) (sym same) ∙ r.2))
    (λ (other : t ≡ s → ⊥). ne_eqb t s other ∙ sym (r.3 s (omega arith) (omega (arith, r.0))))
    (cases_eq t s)
first_is p i s None e =
    ⊎_elim
    (λ (q : holds p i s ≡ true).
    let b = inside_slot p i s (and_parts (inside p i s) (p.allowed i s) q).0 in
    sym (no_slot_found p i s e s (omega arith) b.1))
    (λ (q : holds p i s ≡ false). sym q)
    (cases_Bool (holds p i s))

-- ---- a loop over the slots of i that counts them
pub count_found : (p : Pairs) (i k t n : ℕ) → 0 < k → n ≡ count (holds p i) (k - 1) → Some t ≡ first_slot p i k → n + 1 ≡ count (holds p i) (t + 1 - 1)
count_found p i k t n h counted e =
    let back : t + 1 - 1 ≡ t = omega arith in
    ap (λ m. m + 1) counted ∙ sym (count_jump (holds p i) p.slots k t h (sym e)) ∙ sym (ap (count (holds p i)) back)

pub count_done : (p : Pairs) (i k n : ℕ) → 0 < k → k ≤ p.slots + 1 → n ≡ count (holds p i) (k - 1) → None ≡ first_slot p i k → n ≡ count (holds p i) p.slots
count_done p i k n h b counted e = counted ∙ sym (count_last (holds p i) p.slots k h b (sym e))
