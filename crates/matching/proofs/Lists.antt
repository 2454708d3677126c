-- Plans that are read from lists, and two lists that tell one plan.
use Rattle.std.proofs.Common.{◌≡◌, ℕ, zero, suc, ◌<◌, true, not, eqb, leb, List, length, sym, refl, ap, ◌∙◌, subst, arith}
use mathlib.Core.Path.{fun_ext}
use Rattle.std.proofs.lemmas.Bool.{and_parts, and_from, leb-true, le-leb, eqb-true, eqb-false, eq-eqb, ne_eqb, not-true, not_from_false}
use Rattle.refusal.specs.Counting.{any, within, first_from}
use Rattle.refusal.specs.Tables.{at}
use Rattle.refusal.proofs.Counts.{same_if, within_bounds, any_some, any_here}
use Rattle.refusal.proofs.First.{first_empty, first_here, first_jump}
use Rattle.refusal.proofs.Entries.{at_within}
use Rattle.matching.specs.Board.{turned}
use Rattle.matching.specs.Lists.{plan_of, Points, number_or_none}
use Rattle.matching.proofs.Soundness.{false_if_not}

pub plan_parts : (xs : List ℕ) (i s : ℕ) → plan_of xs i s ≡ true → (0 < s) × (at 0 xs i ≡ s) × (within (length xs) i ≡ true)
plan_parts xs i s h =
    let (b, c) = and_parts (leb 1 s) _ h in
    let s0 = leb-true 1 s b in
    let e = eqb-true (at 0 xs i) s c in
    (s0, e, at_within xs i (omega arith))

pub plan_from : (xs : List ℕ) (i s : ℕ) → 0 < s → at 0 xs i ≡ s → plan_of xs i s ≡ true
plan_from xs i s s0 e = and_from (leb 1 s) _ (le-leb 1 s (omega arith)) (eq-eqb (at 0 xs i) s e)

pub one_slot : (xs : List ℕ) (i s t : ℕ) → plan_of xs i s ≡ true → plan_of xs i t ≡ true → s ≡ t
one_slot xs i s t h k = sym (plan_parts xs i s h).1 ∙ (plan_parts xs i t k).1

-- where the tables agree, an entry of the one is the entry of the other
pub points_at : (there back : List ℕ) (i s : ℕ) → Points there back → 0 < s → at 0 there i ≡ s → at 0 back s ≡ i
points_at there back i s points h e = ap (at 0 back) (sym e) ∙ points i (omega arith)

module _ (there back : List ℕ) (to : Points there back) where
  -- no slot is used twice
  pub one_programme : (i j s : ℕ) → plan_of there i s ≡ true → plan_of there j s ≡ true → i ≡ j
  one_programme i j s h k =
      let (s0, e, _) = plan_parts there i s h in
      let (_, d, _) = plan_parts there j s k in
      sym (points_at there back i s to s0 e) ∙ points_at there back j s to s0 d

  pub plan_there : (i s : ℕ) → plan_of there i s ≡ true → plan_of back s i ≡ true
  plan_there i s h =
      let (s0, e, w) = plan_parts there i s h in
      let i0 = (within_bounds (length there) i w).0 in
      plan_from back s i (omega arith) (points_at there back i s to s0 e)

-- the same plan, from the other table
pub plan_turned : (there back : List ℕ) → Points there back → Points back there → turned (plan_of there) ≡ plan_of back
plan_turned there back to from = fun_ext (λ s. fun_ext (λ i. same_if (plan_of there i s) (plan_of back s i) (plan_there there back to i s) (plan_there back there from s i)))

-- an entry is a number of the other side
pub entry_within : (there back : List ℕ) → Points there back → (i : ℕ) → 0 < at 0 there i → within (length back) (at 0 there i) ≡ true
entry_within there back to i h =
    let i0 = (within_bounds (length there) i (at_within there i h)).0 in
    at_within back (at 0 there i) (omega (arith, to i h))

-- who has an entry is placed, and nobody else
pub placed_is : (there back : List ℕ) → Points there back → (m : ℕ) → length back ≡ m → (i : ℕ) → any (plan_of there i) m ≡ not (eqb (at 0 there i) 0)
placed_is there back to m counted i = same_if _ _
    (λ h. let (s, in-s, at-s) = any_some (plan_of there i) m h in let (s0, e, w) = plan_parts there i s at-s in not_from_false _ (ne_eqb (at 0 there i) 0 (λ z. omega arith)))
    (λ h.
    let ne = eqb-false (at 0 there i) 0 (not-true _ h) in
    let here = plan_from there i (at 0 there i) (omega arith) refl in
    any_here (plan_of there i) m (at 0 there i) (subst (λ (k : ℕ). within k (at 0 there i) ≡ true) counted (entry_within there back to i (omega arith))) here)

-- the first slot in which i runs is its entry
pub first_is : (there back : List ℕ) → Points there back → (m : ℕ) → length back ≡ m → (i : ℕ) → first_from (plan_of there i) m 1 ≡ number_or_none (at 0 there i)
first_is there back to m counted i = by (at 0 there i) refl
  where
    by : (s : ℕ) → at 0 there i ≡ s → first_from (plan_of there i) m 1 ≡ number_or_none s
    by zero e = first_empty (plan_of there i) m 1 (λ j a b. false_if_not _ (λ h. let (s0, d, w) = plan_parts there i j h in omega arith))
    by (suc s) e =
        let b = within_bounds (length back) (at 0 there i) (entry_within there back to i (omega arith)) in
        first_jump (plan_of there i) m 1 (suc s) (omega arith) (λ j a l. false_if_not _ (λ h. let (s0, d, w) = plan_parts there i j h in omega arith))
        ∙ first_here (plan_of there i) m (suc s) (omega arith) (plan_from there i (suc s) (omega arith) e)
