-- Pairs in which nobody stands twice, and the plan filled from them.
use Rattle.std.proofs.Common.{◌≡◌, ℕ, zero, suc, ◌+◌, ◌<◌, ◌≤◌, Bool, true, false, not, List, [], ◌∷◌, length, get_or, replicate, IfOk, Some, None, Ok, Err, Option, Result, sym, refl, ap, ◌∙◌, subst, ⊎_elim, arith}
use lib.ListN.{length-replicate}
use Rattle.std.proofs.lemmas.Bool.{cases_eq, and_parts, and_from, both_ways, le-leb}
use Rattle.refusal.specs.Counting.{count, within}
use Rattle.refusal.specs.Tables.{at, put}
use Rattle.refusal.specs.Refusals.{refusal_of, first_refusal, number_of}
use Rattle.refusal.specs.declared.Refusal.{Refusal}
use Rattle.refusal.proofs.Counts.{within_bounds, within_from, without, without_other, count-without, same_if}
use Rattle.refusal.proofs.First.{first_some, first_none}
use Rattle.refusal.proofs.Entries.{at-put_same, at-put_other, length-put}
use Rattle.source.specs.Pairs.{Pairs, inside, holds, turned, first_slot}
use Rattle.matching.specs.Lists.{plan_of, Points}
use Rattle.matching.proofs.Lists.{plan_parts, plan_from}
use Rattle.plan.specs.Held.{Held, assigned, nothing, everyone, known_pair, pair_refusals}
use Rattle.plan.specs.Filling.{twice, first_twice, SameCounts, with_slot, PlanOf}

-- a table of zeros
get-zeros : (n k : ℕ) → ◌≡◌ {A = ℕ} (get_or (replicate n 0) k 0) 0
get-zeros zero k = refl
get-zeros (suc n) zero = refl
get-zeros (suc n) (suc k) = get-zeros n k

at-zeros : (n k : ℕ) → ◌≡◌ {A = ℕ} (at 0 (replicate n 0) k) 0
at-zeros n zero = refl
at-zeros n (suc k) = get-zeros n k

-- two that pass count as two
two_pass : (f : ℕ → Bool) (n y z : ℕ) → within n y ≡ true → within n z ≡ true → (z ≡ y → ⊥) → f y ≡ true → f z ≡ true → 2 ≤ count f n
two_pass f n y z in-y in-z ne fy fz =
    let a = count-without f n y in-y fy in
    let b = count-without (without f y) n z in-z (without_other f y z ne ∙ fz) in
    omega arith

module _ (p : Pairs) where
  pub holds_within : (i s : ℕ) → holds p i s ≡ true → (within p.programmes i ≡ true) × (within p.slots s ≡ true)
  holds_within i s h = and_parts (within p.programmes i) _ (and_parts (inside p i s) _ h).0

  -- ---- nobody stands twice
  pub once : first_twice p ≡ None → (i s t : ℕ) → holds p i s ≡ true → holds p i t ≡ true → s ≡ t
  once none i s t h k =
      let (in-i, in-s) = holds_within i s h in
      let in-t = (holds_within i t k).1 in
      let b = within_bounds _ i in-i in
      let no = first_none (λ j. twice p j) p.programmes 1 none i b.0 b.1 in
      ⊎_elim (λ (e : t ≡ s). sym e) (λ (ne : t ≡ s → ⊥). absurd (both_ways _ no (le-leb 2 (count (holds p i) p.slots) (two_pass (holds p i) p.slots s t in-s in-t ne h k)))) (cases_eq t s)

pub once_turned : (p : Pairs) → first_twice (turned p) ≡ None → (i j s : ℕ) → holds p i s ≡ true → holds p j s ≡ true → i ≡ j
once_turned p none i j s h k = once (turned p) none s i j (flip i s h) (flip j s k)
  where
    flip : (i s : ℕ) → holds p i s ≡ true → holds (turned p) s i ≡ true
    flip i s h =
        let (in-i, in-s) = holds_within p i s h in
        and_from _ _ (and_from _ _ in-s in-i) (and_parts (inside p i s) _ h).1

-- ---- accepted calls
-- where no test of a call's table holds, it was accepted, and did what it promises
pub accepted : {X : Type 0} (r : Result X Refusal) (told : Option ℕ) (Q : X → Type 0) → refusal_of r ≡ told → told ≡ None → IfOk r Q → (x : X) × Q x
accepted (Ok x) told Q answer none q = (x, q)
accepted (Err e) told Q answer none q = let z : Some (number_of e) ≡ None = answer ∙ none in absurd (some_none z)
  where
    some_none : {k : ℕ} → Some k ≡ None → ⊥
    some_none {k} e = let z : ◌≡◌ {A = ℕ} 0 1 = cc in omega arith

pub no_test : (b : Bool) (k : ℕ) → b ≡ false → first_refusal ((b, k) ∷ []) ≡ None
no_test b k e = ap (λ (c : Bool). first_refusal ((c, k) ∷ [])) e

-- ---- the loop that takes the pairs over
-- the programmes below i have their slots, and nobody else has one
pub record Taken (p : Pairs) (h : Held) (i : ℕ) : Type 0 where
  pub programmes : length h.slot_of ≡ p.programmes
  pub slots : length h.programme_in ≡ p.slots
  pub attendance : h.attendance ≡ everyone p.programmes p.slots
  pub to : (j s : ℕ) → plan_of h.slot_of j s ≡ true → (j < i) × (holds p j s ≡ true)
  pub from : (j s : ℕ) → j < i → holds p j s ≡ true → plan_of h.slot_of j s ≡ true

module _ (p : Pairs) where
  pub taken_none : (h : Held) → h ≡ nothing p.programmes p.slots → Taken p h 1
  taken_none h e = subst (λ (k : Held). Taken p k 1) (sym e) (record {
    programmes = length-replicate p.programmes 0;
    slots = length-replicate p.slots 0;
    attendance = refl;
    to = λ j s q. absurd (let (s0, d, w) = plan_parts (replicate p.programmes 0) j s q in let z : ⊥ = omega (arith, at-zeros p.programmes j) in z);
    from = λ j s l q. absurd (let b = within_bounds _ j (holds_within p j s q).0 in let z : ⊥ = omega arith in z);
  })

  pub taken_past : (h : Held) (i : ℕ) → Taken p h i → None ≡ first_slot p i 1 → Taken p h (i + 1)
  taken_past h i t none = record {
    programmes = t.programmes;
    slots = t.slots;
    attendance = t.attendance;
    to = λ j s q. let r = t.to j s q in (omega (arith, r.0), r.1);
    from = λ j s l q.
        ⊎_elim
        (λ (e : j ≡ i). absurd (let b = within_bounds _ s (holds_within p j s q).1 in both_ways _ (first_none (holds p i) p.slots 1 (sym none) s b.0 b.1) (subst (λ (k : ℕ). holds p k s ≡ true) e q)))
        (λ (ne : j ≡ i → ⊥). t.from j s (omega arith) q)
        (cases_eq j i);
  }

  pub taken_more : (h h' : Held) (i s : ℕ) → first_twice p ≡ None → first_twice (turned p) ≡ None → Points h.programme_in h.slot_of → Taken p h i → 1 ≤ i → i ≤ p.programmes → Some s ≡ first_slot p i 1 → h' ≡ assigned h i s → Taken p h' (i + 1)
  taken_more h h' i s no_row no-column back t i0 il first e =
      let so : List ℕ = h.slot_of in
      let gone : ℕ = at 0 h.programme_in s in
      let (s0, sl, here, before) = first_some (holds p i) p.slots 1 s (sym first) in
      let nobody : gone ≡ 0 = ⊎_elim
      (λ (z : gone ≡ 0). z)
      (λ (nz : gone ≡ 0 → ⊥).
      let r = t.to gone s (plan_from so gone s (omega arith) (back s (omega arith))) in
      absurd (omega (arith, r.0, once_turned p no-column gone i s r.1 here)))
      (cases_eq gone 0) in
      let table : h'.slot_of ≡ put so i s = ap (λ (k : Held). k.slot_of) e ∙ ap (λ k. put (put so k 0) i s) nobody in
      let same : at 0 (put so i s) i ≡ s = at-put_same 0 so i s (omega arith) (omega (arith, t.programmes)) in
      record {
        programmes = ap length table ∙ length-put so i s ∙ t.programmes;
        slots = ap (λ (k : Held). length k.programme_in) e ∙ length-put (put h.programme_in (at 0 so i) 0) s i ∙ length-put h.programme_in (at 0 so i) 0 ∙ t.slots;
        attendance = ap (λ (k : Held). k.attendance) e ∙ t.attendance;
        to = λ j k q.
            let (k0, d, w) = plan_parts (put so i s) j k (subst (λ (l : List ℕ). plan_of l j k ≡ true) table q) in
            ⊎_elim
            (λ (y : j ≡ i).
            let is-s : s ≡ k = sym same ∙ ap (at 0 (put so i s)) (sym y) ∙ d in
            (omega arith, ap (λ m. holds p m k) y ∙ ap (holds p i) (sym is-s) ∙ here))
            (λ (ne : j ≡ i → ⊥).
            let r = t.to j k (plan_from so j k k0 (sym (at-put_other 0 so i s j ne) ∙ d)) in
            (omega (arith, r.0), r.1))
            (cases_eq j i);
        from = λ j k l q.
            subst (λ (m : List ℕ). plan_of m j k ≡ true) (sym table)
            (⊎_elim
            (λ (y : j ≡ i).
            let is-k : s ≡ k = once p no_row i s k here (subst (λ (m : ℕ). holds p m k ≡ true) y q) in
            plan_from (put so i s) j k (omega arith) (ap (at 0 (put so i s)) y ∙ same ∙ is-k))
            (λ (ne : j ≡ i → ⊥).
            let (k0, d, w) = plan_parts so j k (t.from j k (omega arith) q) in
            plan_from (put so i s) j k k0 (at-put_other 0 so i s j ne ∙ d))
            (cases_eq j i));
      }

  pub taken_step : (h h' : Held) (i : ℕ) → first_twice p ≡ None → first_twice (turned p) ≡ None → Points h.programme_in h.slot_of → Taken p h i → 1 ≤ i → i ≤ p.programmes → h' ≡ with_slot h i (first_slot p i 1) → Taken p h' (i + 1)
  taken_step h h' i no_row no-column back t i0 il e = by (first_slot p i 1) refl
    where
      by : (o : Option ℕ) → o ≡ first_slot p i 1 → Taken p h' (i + 1)
      by None f = subst (λ (k : Held). Taken p k (i + 1)) (sym (e ∙ ap (with_slot h i) (sym f))) (taken_past h i t f)
      by (Some s) f = taken_more h h' i s no_row no-column back t i0 il f (e ∙ ap (with_slot h i) (sym f))

  -- the pair that is taken over is one of the plan's
  pub pair_known : (h : Held) (i s : ℕ) → SameCounts p h → within p.programmes i ≡ true → Some s ≡ first_slot p i 1 → first_refusal (pair_refusals h i s) ≡ None
  pair_known h i s counts in-i first =
      let (s0, sl, here, before) = first_some (holds p i) p.slots 1 s (sym first) in
      let known : known_pair h i s ≡ true = and_from _ _ (subst (λ (k : ℕ). within k i ≡ true) (sym counts.0) in-i) (subst (λ (k : ℕ). within k s ≡ true) (sym counts.1) (within_from _ s s0 sl)) in
      no_test _ 10 (ap not known)

  pub taken_all : (h : Held) (i : ℕ) → Taken p h i → p.programmes < i → PlanOf p h
  taken_all h i t l = record {
    counts = (t.programmes, t.slots);
    pairs = λ j s. same_if _ _ (λ q. (t.to j s q).1) (λ q. let b = within_bounds _ j (holds_within p j s q).0 in t.from j s (omega arith) q);
    attendance = t.attendance;
  }
