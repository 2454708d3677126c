-- Lemmas on layers: the search for the first slot that is left.
use Rattle.std.proofs.Common.{◌≡◌, ℕ, ◌+◌, ◌<◌, ◌≤◌, Bool, true, false, not, Some, None, sym, ap, ◌∙◌, ⊎_elim, arith}
use Rattle.std.proofs.lemmas.Bool.{and_left, and_right, and_parts, and_from, cases_Bool, both_ways}
use Rattle.refusal.specs.Limits.{side}
use Rattle.refusal.proofs.Counts.{within_from}
use Rattle.refusal.proofs.First.{first_here, first_on, first_jump, first_empty}
use Rattle.source.specs.Pairs.{Pairs, inside, holds, first_slot, layered}
use Rattle.source.proofs.Questions.{inside_programme, inside_slot, first_slot_found, no_slot_found}

-- Of p less what `out` names: the search for the first slot of i.
module _ (p : Pairs) (out : ℕ → ℕ → Bool) (i : ℕ) where
  -- what p does not hold, the layer does not
  not_below : (s : ℕ) → holds p i s ≡ false → holds (layered p out) i s ≡ false
  not_below s e =
      ⊎_elim
      (λ (h : holds (layered p out) i s ≡ true).
      let (within-layer, left) = and_parts (inside (layered p out) i s) ((layered p out).allowed i s) h in
      let (allowed, kept) = and_parts (p.allowed i s) (not (out i s)) left in
      let (a, b) = inside_programme (layered p out) i s within-layer in
      let (c, d) = inside_slot (layered p out) i s within-layer in
      let within-p : inside p i s ≡ true = and_from _ _ (within_from p.programmes i a (omega arith)) (within_from p.slots s c (omega arith)) in
      absurd (both_ways _ e (and_from _ _ within-p allowed)))
      (λ (h : holds (layered p out) i s ≡ false). h)
      (cases_Bool (holds (layered p out) i s))

  left_true : (s : ℕ) → i ≤ side → s ≤ side → holds p i s ≡ true → out i s ≡ false → holds (layered p out) i s ≡ true
  left_true s u v h o =
      let (within-p, allowed) = and_parts (inside p i s) (p.allowed i s) h in
      let (a, b) = inside_programme p i s within-p in
      let (c, d) = inside_slot p i s within-p in
      and_from _ _
      (and_from _ _ (within_from (layered p out).programmes i a (omega arith)) (within_from (layered p out).slots s c (omega arith)))
      (and_from _ _ allowed (ap not o))

  -- ---- the steps of the search, where the source below answers t from k on
  -- up to t the layer has nothing
  jump : (k t : ℕ) → Some t ≡ first_slot p i k → first_slot (layered p out) i k ≡ first_slot (layered p out) i t
  jump k t e =
      let r = first_slot_found p i k t e in
      first_jump (holds (layered p out) i) (layered p out).slots k t r.0 (λ j a b. not_below j (r.3 j a b))

  pub layer_here : (k t : ℕ) → i ≤ side → t ≤ side → Some t ≡ first_slot p i k → false ≡ out i t → Some t ≡ first_slot (layered p out) i k
  layer_here k t u v e o =
      let r = first_slot_found p i k t e in
      sym (jump k t e ∙ first_here (holds (layered p out) i) (layered p out).slots t (omega (arith, r.1)) (left_true t u v r.2 (sym o)))

  pub layer_on : (k t : ℕ) → Some t ≡ first_slot p i k → true ≡ out i t → first_slot (layered p out) i (t + 1) ≡ first_slot (layered p out) i k
  layer_on k t e o =
      sym (jump k t e ∙ first_on (holds (layered p out) i) (layered p out).slots t (and_right (inside (layered p out) i t) _ (and_right (p.allowed i t) _ (ap not (sym o)))))

  pub layer_beyond : (k t : ℕ) → side < t → Some t ≡ first_slot p i k → None ≡ first_slot (layered p out) i k
  layer_beyond k t v e =
      let r = first_slot_found p i k t e in
      sym (first_empty (holds (layered p out) i) (layered p out).slots k (λ j a b. not_below j (r.3 j a (omega arith))))

  pub layer_end : (k : ℕ) → None ≡ first_slot p i k → None ≡ first_slot (layered p out) i k
  layer_end k e =
      sym (first_empty (holds (layered p out) i) (layered p out).slots k (λ j a b. not_below j (no_slot_found p i k e j a (omega arith))))

  -- ---- a programme beyond the cut has no slot
  pub layer_outside : (k : ℕ) → side < i → None ≡ first_slot (layered p out) i k
  layer_outside k u = sym (first_empty (holds (layered p out) i) (layered p out).slots k (λ j a b.
      ⊎_elim
      (λ (h : inside (layered p out) i j ≡ true). let (c, d) = inside_programme (layered p out) i j h in absurd (omega arith))
      (λ (h : inside (layered p out) i j ≡ false). and_left _ _ h)
      (cases_Bool (inside (layered p out) i j))))
