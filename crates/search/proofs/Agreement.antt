-- Tables that agree, and what a move of one member, or the emptying of one slot, does to them.
use Rattle.std.proofs.Common.{◌≡◌, ℕ, zero, suc, ◌<◌, ◌≤◌, Bool, true, false, List, length, replicate, sym, refl, ap, ◌∙◌, subst, ⊎_elim, arith}
use Rattle.std.proofs.lemmas.Bool.{cases_eq}
use Rattle.std.proofs.lemmas.Grind.{common_steps}
use Rattle.refusal.specs.Tables.{at, put}
use Rattle.refusal.proofs.Counts.{within_bounds}
use Rattle.refusal.proofs.Entries.{at_within, mark_within, length-put, at-put_same, at-put_other}
use Rattle.matching.specs.Lists.{Points}
use Rattle.plan.specs.declared.Plan.{Plan}
use Rattle.plan.specs.Held.{Held, held, assigned, vacated}
use Rattle.search.specs.Scene.{Agrees}

-- ---- entries that are not none
pub at_in : (xs : List ℕ) (k : ℕ) → 0 < at 0 xs k → k ≤ length xs
at_in xs k h = (within_bounds (length xs) k (at_within xs k h)).1

pub at_pos : (xs : List ℕ) (k : ℕ) → 0 < at 0 xs k → 0 < k
at_pos xs k h = (within_bounds (length xs) k (at_within xs k h)).0

pub mark_in : (m : List Bool) (k : ℕ) → at false m k ≡ true → k ≤ length m
mark_in m k h = (within_bounds (length m) k (mark_within m k h)).1

pub mark_pos : (m : List Bool) (k : ℕ) → at false m k ≡ true → 0 < k
mark_pos m k h = (within_bounds (length m) k (mark_within m k h)).0

-- nothing stands in a table that is made of none
at_replicate : {X : Type 0} (none : X) (n k : ℕ) → at none (replicate n none) k ≡ none
at_replicate none n zero = refl
at_replicate none n (suc k) = grind (arith, common_steps)

pub none_stands : {X : Type 0} (none : X) (xs : List X) (n : ℕ) → xs ≡ replicate n none → (k : ℕ) → at none xs k ≡ none
none_stands none xs n e k = rw e (at_replicate none n k)

-- ---- moves
-- member x went from its slot, if it had one, to the slot s
pub record Moved (x s : ℕ) (slot_of member_in slot_of' member_in' : List ℕ) : Type 0 where
  pub agrees : Agrees slot_of' member_in'
  pub slot_len : length slot_of' ≡ length slot_of
  pub member_len : length member_in' ≡ length member_in
  pub placed : at 0 slot_of' x ≡ s
  pub others : (i : ℕ) → (i ≡ x → ⊥) → at 0 slot_of' i ≡ at 0 slot_of i
  pub filled : at 0 member_in' s ≡ x
  pub left : (0 < at 0 slot_of x → at 0 member_in' (at 0 slot_of x) ≡ 0)
  pub rest : (t : ℕ) → (t ≡ s → ⊥) → (t ≡ at 0 slot_of x → ⊥) → at 0 member_in' t ≡ at 0 member_in t

-- the slot s was emptied, and its member, if it had one, lost its place
pub record Freed (s : ℕ) (slot_of member_in slot_of' member_in' : List ℕ) : Type 0 where
  pub agrees : Agrees slot_of' member_in'
  pub slot_len : length slot_of' ≡ length slot_of
  pub member_len : length member_in' ≡ length member_in
  pub empty : at 0 member_in' s ≡ 0
  pub gone : 0 < at 0 member_in s → at 0 slot_of' (at 0 member_in s) ≡ 0
  pub others : (i : ℕ) → (i ≡ at 0 member_in s → ⊥) → at 0 slot_of' i ≡ at 0 slot_of i
  pub rest : (t : ℕ) → (t ≡ s → ⊥) → at 0 member_in' t ≡ at 0 member_in t

-- the move, over the tables as functions
module _ (slot_of member_in : List ℕ) (x s : ℕ) (x0 : 0 < x) (xl : x ≤ length slot_of) (s0 : 0 < s) (sl : s ≤ length member_in)
    (ag : Agrees slot_of member_in) (free : at 0 member_in s ≡ 0) where
  abbrev slot_of' : List ℕ
  slot_of' = put slot_of x s

  abbrev member_in' : List ℕ
  member_in' = put (put member_in (at 0 slot_of x) 0) s x

  stood : 0 < at 0 slot_of x → at 0 member_in (at 0 slot_of x) ≡ x
  stood h = ag.there x (at 0 slot_of x) x0 h refl

  apart : s ≡ at 0 slot_of x → ⊥
  apart e = let h : 0 < at 0 slot_of x = omega arith in let k = stood h in
      let f : at 0 member_in s ≡ at 0 member_in (at 0 slot_of x) = ap (at 0 member_in) e in omega arith

  mid_old : 0 < at 0 slot_of x → at 0 (put member_in (at 0 slot_of x) 0) (at 0 slot_of x) ≡ 0
  mid_old h = at-put_same 0 member_in (at 0 slot_of x) 0 h (at_in member_in (at 0 slot_of x) (omega (arith, stood h)))

  rest' : (t : ℕ) → (t ≡ s → ⊥) → (t ≡ at 0 slot_of x → ⊥) → at 0 member_in' t ≡ at 0 member_in t
  rest' t n m = at-put_other 0 (put member_in (at 0 slot_of x) 0) s x t n ∙ at-put_other 0 member_in (at 0 slot_of x) 0 t m

  left' : 0 < at 0 slot_of x → at 0 member_in' (at 0 slot_of x) ≡ 0
  left' h = at-put_other 0 (put member_in (at 0 slot_of x) 0) s x (at 0 slot_of x) (λ e. apart (sym e)) ∙ mid_old h

  filled' : at 0 member_in' s ≡ x
  filled' = at-put_same 0 (put member_in (at 0 slot_of x) 0) s x s0 (omega (arith, length-put member_in (at 0 slot_of x) 0))

  placed' : at 0 slot_of' x ≡ s
  placed' = at-put_same 0 slot_of x s x0 xl

  others' : (i : ℕ) → (i ≡ x → ⊥) → at 0 slot_of' i ≡ at 0 slot_of i
  others' i n = at-put_other 0 slot_of x s i n

  there' : (i t : ℕ) → 0 < i → 0 < t → at 0 slot_of' i ≡ t → at 0 member_in' t ≡ i
  there' i t i0 t0 e = ⊎_elim
      (λ q. let f : at 0 slot_of' i ≡ at 0 slot_of' x = ap (at 0 slot_of') q in
      let u : t ≡ s = omega (arith, placed') in ap (at 0 member_in') u ∙ filled' ∙ sym q)
      (λ n. let h : at 0 slot_of i ≡ t = sym (others' i n) ∙ e in
      let k : at 0 member_in t ≡ i = ag.there i t i0 t0 h in
      rest' t (λ u. let f : at 0 member_in t ≡ at 0 member_in s = ap (at 0 member_in) u in omega arith)
      (λ u. n (sym k ∙ ap (at 0 member_in) u ∙ stood (omega arith)))
      ∙ k)
      (cases_eq i x)

  back' : (i t : ℕ) → 0 < i → 0 < t → at 0 member_in' t ≡ i → at 0 slot_of' i ≡ t
  back' i t i0 t0 e = ⊎_elim
      (λ q. let u : i ≡ x = sym e ∙ ap (at 0 member_in') q ∙ filled' in ap (at 0 slot_of') u ∙ placed' ∙ sym q)
      (λ n. ⊎_elim
      (λ u. let z : i ≡ 0 = sym e ∙ ap (at 0 member_in') u ∙ left' (omega arith) in absurd (let w : ⊥ = omega arith in w))
      (λ m. let k : at 0 member_in t ≡ i = sym (rest' t n m) ∙ e in
      let h : at 0 slot_of i ≡ t = ag.back i t i0 t0 k in
      others' i (λ w. m (sym h ∙ ap (at 0 slot_of) w)) ∙ h)
      (cases_eq t (at 0 slot_of x)))
      (cases_eq t s)

  pub moved : Moved x s slot_of member_in slot_of' member_in'
  moved = record {
    agrees = record { there = there'; back = back' };
    slot_len = length-put slot_of x s;
    member_len = length-put (put member_in (at 0 slot_of x) 0) s x ∙ length-put member_in (at 0 slot_of x) 0;
    placed = placed';
    others = others';
    filled = filled';
    left = left';
    rest = rest';
  }

module _ (slot_of member_in : List ℕ) (s : ℕ) (s0 : 0 < s) (sl : s ≤ length member_in) (ag : Agrees slot_of member_in) where
  abbrev y : ℕ
  y = at 0 member_in s

  -- what stands in s has its place there
  sits : 0 < at 0 member_in s → at 0 slot_of (at 0 member_in s) ≡ s
  sits h = ag.back (at 0 member_in s) s h s0 refl

  pub holder_in : 0 < at 0 member_in s → at 0 member_in s ≤ length slot_of
  holder_in h = at_in slot_of (at 0 member_in s) (omega (arith, sits h))

  f_others : (i : ℕ) → (i ≡ at 0 member_in s → ⊥) → at 0 (put slot_of y 0) i ≡ at 0 slot_of i
  f_others i n = at-put_other 0 slot_of y 0 i n

  f_rest : (t : ℕ) → (t ≡ s → ⊥) → at 0 (put member_in s 0) t ≡ at 0 member_in t
  f_rest t n = at-put_other 0 member_in s 0 t n

  f_empty : at 0 (put member_in s 0) s ≡ 0
  f_empty = at-put_same 0 member_in s 0 s0 sl

  f_gone : 0 < at 0 member_in s → at 0 (put slot_of y 0) (at 0 member_in s) ≡ 0
  f_gone h = at-put_same 0 slot_of y 0 h (holder_in h)

  f_there : (i t : ℕ) → 0 < i → 0 < t → at 0 (put slot_of y 0) i ≡ t → at 0 (put member_in s 0) t ≡ i
  f_there i t i0 t0 e = ⊎_elim
      (λ q. let z : at 0 (put slot_of y 0) i ≡ 0 = ap (at 0 (put slot_of y 0)) q ∙ f_gone (omega arith) in absurd (let w : ⊥ = omega arith in w))
      (λ n. let h : at 0 slot_of i ≡ t = sym (f_others i n) ∙ e in
      let k : at 0 member_in t ≡ i = ag.there i t i0 t0 h in
      f_rest t (λ u. n (sym k ∙ ap (at 0 member_in) u)) ∙ k)
      (cases_eq i (at 0 member_in s))

  f_back : (i t : ℕ) → 0 < i → 0 < t → at 0 (put member_in s 0) t ≡ i → at 0 (put slot_of y 0) i ≡ t
  f_back i t i0 t0 e = ⊎_elim
      (λ q. let z : at 0 (put member_in s 0) t ≡ 0 = ap (at 0 (put member_in s 0)) q ∙ f_empty in absurd (let w : ⊥ = omega arith in w))
      (λ n. let k : at 0 member_in t ≡ i = sym (f_rest t n) ∙ e in
      let h : at 0 slot_of i ≡ t = ag.back i t i0 t0 k in
      f_others i (λ u. n (sym h ∙ ap (at 0 slot_of) u ∙ sits (omega (arith, sym u)))) ∙ h)
      (cases_eq t s)

  pub freed : Freed s slot_of member_in (put slot_of (at 0 member_in s) 0) (put member_in s 0)
  freed = record {
    agrees = record { there = f_there; back = f_back };
    slot_len = length-put slot_of y 0;
    member_len = length-put member_in s 0;
    empty = f_empty;
    gone = f_gone;
    others = f_others;
    rest = f_rest;
  }

-- ---- the tables of a plan
pub points_agree : (slot_of member_in : List ℕ) → Points slot_of member_in → Points member_in slot_of → Agrees slot_of member_in
points_agree slot_of member_in there back = record {
  there = λ i s i0 s0 e. sym (ap (at 0 member_in) e) ∙ there i (omega arith);
  back = λ i s i0 s0 e. sym (ap (at 0 slot_of) e) ∙ back s (omega arith);
}

pub plan_agrees : (plan : Plan) → Agrees (held plan).slot_of (held plan).programme_in
plan_agrees plan = points_agree _ _ plan.there plan.back

module _ (plan plan' : Held) (ag : Agrees plan.slot_of plan.programme_in) where
  -- a slot that is vacated is emptied
  pub vacate_frees : (s : ℕ) → 0 < s → s ≤ length plan.programme_in → plan' ≡ vacated plan s → Freed s plan.slot_of plan.programme_in plan'.slot_of plan'.programme_in
  vacate_frees s s0 sl e =
      subst (λ (h : Held). Freed s plan.slot_of plan.programme_in h.slot_of h.programme_in) (sym e) (freed plan.slot_of plan.programme_in s s0 sl ag)

  -- a member that is assigned to an empty slot moves there
  pub assign_moves : (x s : ℕ) → 0 < x → x ≤ length plan.slot_of → 0 < s → s ≤ length plan.programme_in → at 0 plan.programme_in s ≡ 0 → plan' ≡ assigned plan x s
      → Moved x s plan.slot_of plan.programme_in plan'.slot_of plan'.programme_in
  assign_moves x s x0 xl s0 sl empty e =
      let same : (assigned plan x s).slot_of ≡ put plan.slot_of x s = ap (λ (k : ℕ). put (put plan.slot_of k 0) x s) empty in
      subst (λ (h : Held). Moved x s plan.slot_of plan.programme_in h.slot_of h.programme_in) (sym e)
      (subst (λ (l : List ℕ). Moved x s plan.slot_of plan.programme_in l (assigned plan x s).programme_in) (sym same) (moved plan.slot_of plan.programme_in x s x0 xl s0 sl ag empty))
