-- The two tables of a plan agree after each edit.
use Rattle.std.proofs.Common.{◌≡◌, ℕ, zero, suc, ◌<◌, ◌≤◌, true, List, length, sym, refl, ap, ◌∙◌, ⊎_elim, arith}
use Rattle.std.proofs.lemmas.Bool.{and_parts, cases_eq, cases_lt}
use Rattle.refusal.specs.Counting.{within}
use Rattle.refusal.specs.Tables.{at, put}
use Rattle.refusal.proofs.Counts.{within_bounds}
use Rattle.refusal.proofs.Entries.{at-put_same, at-put_other, at_past, length-put, put_past}
use Rattle.matching.specs.Lists.{Points}
use Rattle.plan.specs.Held.{Held, known_pair}

-- the numbers of a pair that the plan has
pub pair_bounds : (h : Held) (i s : ℕ) → true ≡ known_pair h i s → (0 < i) × (i ≤ length h.slot_of) × (0 < s) × (s ≤ length h.programme_in)
pair_bounds h i s e =
    let (a, b) = and_parts (within (length h.slot_of) i) _ (sym e) in
    let (i0, il) = within_bounds _ i a in
    let (s0, sl) = within_bounds _ s b in
    (omega arith, il, omega arith, sl)

-- where 0 was written 0 stands
pub at-put_zero : (xs : List ℕ) (k : ℕ) → at 0 (put xs k 0) k ≡ 0
at-put_zero xs zero = refl
at-put_zero xs (suc k) =
    ⊎_elim
    (λ (h : length xs < suc k). ap (λ (l : List ℕ). at 0 l (suc k)) (put_past xs (suc k) 0 (λ _. h)) ∙ at_past 0 xs (suc k) (λ _. h))
    (λ (h : suc k ≤ length xs). at-put_same 0 xs (suc k) 0 (omega arith) h)
    (cases_lt (length xs) (suc k))

-- a positive entry after 0 was written under k stands elsewhere, and stood there before
cleared : (xs : List ℕ) (k j : ℕ) → 0 < at 0 (put xs k 0) j → ((j ≡ k → ⊥) × (at 0 (put xs k 0) j ≡ at 0 xs j))
cleared xs k j h =
    let other : j ≡ k → ⊥ = λ e. let z : at 0 (put xs k 0) j ≡ 0 = ap (at 0 (put xs k 0)) e ∙ at-put_zero xs k in let w : ⊥ = omega arith in w in
    (other, at-put_other 0 xs k 0 j other)

module _ (there back : List ℕ) (to : Points there back) (from : Points back there) where
  -- two do not point to one
  apart : (i j : ℕ) → 0 < at 0 there i → at 0 there i ≡ at 0 there j → i ≡ j
  apart i j h e = sym (to i h) ∙ ap (at 0 back) e ∙ to j (omega arith)

  -- the pair of s taken out, and then the pair (i, s) put in
  pub points_assigned : (i s : ℕ) → 0 < i → i ≤ length there → 0 < s → s ≤ length back → Points (put (put there (at 0 back s) 0) i s) (put (put back (at 0 there i) 0) s i)
  points_assigned i s i0 il s0 sl j h =
      let gone : ℕ = at 0 back s in
      let left : ℕ = at 0 there i in
      let there1 : List ℕ = put there gone 0 in
      let back1 : List ℕ = put back left 0 in
      let there2 : List ℕ = put there1 i s in
      let back2 : List ℕ = put back1 s i in
      ⊎_elim
      (λ (e : j ≡ i).
      let here : at 0 there2 j ≡ s = ap (at 0 there2) e ∙ at-put_same 0 there1 i s i0 (omega (arith, length-put there gone 0)) in
      ap (at 0 back2) here ∙ at-put_same 0 back1 s i s0 (omega (arith, length-put back left 0)) ∙ sym e)
      (λ (ne : j ≡ i → ⊥).
      let past : at 0 there2 j ≡ at 0 there1 j = at-put_other 0 there1 i s j ne in
      let (not-gone, before) = cleared there gone j (omega arith) in
      let t : ℕ = at 0 there j in
      let is-t : at 0 there2 j ≡ t = past ∙ before in
      let t0 : 0 < t = omega arith in
      let back-t : at 0 back t ≡ j = to j t0 in
      let not-s : t ≡ s → ⊥ = λ e. not-gone (sym back-t ∙ ap (at 0 back) e) in
      let not_left : t ≡ left → ⊥ = λ e. ne (apart j i t0 e) in
      ap (at 0 back2) is-t ∙ at-put_other 0 back1 s i t not-s ∙ at-put_other 0 back left 0 t not_left ∙ back-t)
      (cases_eq j i)

  -- the pair of s taken out, read from either side
  pub points_vacated : (s : ℕ) → Points (put there (at 0 back s) 0) (put back s 0)
  points_vacated s j h =
      let (not-gone, before) = cleared there (at 0 back s) j h in
      let t : ℕ = at 0 there j in
      let back-t : at 0 back t ≡ j = to j (omega arith) in
      let not-s : t ≡ s → ⊥ = λ e. not-gone (sym back-t ∙ ap (at 0 back) e) in
      ap (at 0 (put back s 0)) before ∙ at-put_other 0 back s 0 t not-s ∙ back-t

  pub points_vacated_back : (s : ℕ) → Points (put back s 0) (put there (at 0 back s) 0)
  points_vacated_back s t h =
      let (not-s, before) = cleared back s t h in
      let j : ℕ = at 0 back t in
      let there-j : at 0 there j ≡ t = from t (omega arith) in
      let not-gone : j ≡ at 0 back s → ⊥ = λ e. not-s (sym there-j ∙ ap (at 0 there) e ∙ from s (omega arith)) in
      ap (at 0 (put there (at 0 back s) 0)) before ∙ at-put_other 0 there (at 0 back s) 0 j not-gone ∙ there-j

-- the tables of `assign` agree, from what each of its writes left
pub assigned_agree : (there back there1 there2 back1 back2 : List ℕ) (i s gone left : ℕ)
    → Points there back → Points back there → 0 < i → i ≤ length there → 0 < s → s ≤ length back
    → gone ≡ at 0 back s → left ≡ at 0 there i → there1 ≡ put there gone 0 → there2 ≡ put there1 i s → back1 ≡ put back left 0 → back2 ≡ put back1 s i
    → Points there2 back2 × Points back2 there2
assigned_agree there back there1 there2 back1 back2 i s gone left to from i0 il s0 sl eg el e1 e2 f1 f2 =
    let e : there2 ≡ put (put there (at 0 back s) 0) i s = e2 ∙ ap (λ (l : List ℕ). put l i s) (e1 ∙ ap (λ k. put there k 0) eg) in
    let f : back2 ≡ put (put back (at 0 there i) 0) s i = f2 ∙ ap (λ (l : List ℕ). put l s i) (f1 ∙ ap (λ k. put back k 0) el) in
    (rw (e, f) (points_assigned there back to from i s i0 il s0 sl), rw (e, f) (points_assigned back there from to s i s0 sl i0 il))

-- the tables of `vacate` agree
pub vacated_agree : (there back there1 back1 : List ℕ) (s gone : ℕ)
    → Points there back → Points back there → gone ≡ at 0 back s → there1 ≡ put there gone 0 → back1 ≡ put back s 0
    → Points there1 back1 × Points back1 there1
vacated_agree there back there1 back1 s gone to from eg e1 f1 =
    let e : there1 ≡ put there (at 0 back s) 0 = e1 ∙ ap (λ k. put there k 0) eg in
    (rw (e, f1) (points_vacated there back to from s), rw (e, f1) (points_vacated_back there back to from s))
