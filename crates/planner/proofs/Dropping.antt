-- Dropping the pairs that may not stand, one member after another; what is left is lawful.
use Rattle.std.proofs.Common.{◌≡◌, ℕ, ◌+◌, ◌<◌, ◌≤◌, Bool, true, false, ◌⊎◌, List, length, sym, refl, ap, ◌∙◌, subst, inl, inr, ⊎_elim, arith}
use Rattle.std.proofs.lemmas.Bool.{cases_eq, cases_Bool, cases_lt, and_parts, cond-true, cond-false}
use Rattle.refusal.specs.Tables.{at}
use Rattle.search.specs.Scene.{Agrees}
use Rattle.plan.specs.Held.{Held, Sides, vacated}
use Rattle.search.proofs.Agreement.{Freed, vacate_frees, at_in, at_pos}
use Rattle.planner.specs.Run.{may_stand, AllStand, still_slot}

-- the members before i have their slots if they may stand there, the others as before
pub record Dropping (allowed : ℕ → ℕ → Bool) (members slots : List Bool) (slot_of slot_of' member_in' : List ℕ) (i : ℕ) : Type 0 where
  pub agrees : Agrees slot_of' member_in'
  pub before : (x : ℕ) → x < i → at 0 slot_of' x ≡ still_slot allowed members slots slot_of x
  pub after : (x : ℕ) → i ≤ x → at 0 slot_of' x ≡ at 0 slot_of x

module _ (allowed : ℕ → ℕ → Bool) (members slots : List Bool) (slot_of : List ℕ) where
  still : (x : ℕ) → may_stand allowed members slots x (at 0 slot_of x) ≡ true → still_slot allowed members slots slot_of x ≡ at 0 slot_of x
  still x h = cond-true _ (at 0 slot_of x) 0 h

  gone : (x : ℕ) → may_stand allowed members slots x (at 0 slot_of x) ≡ false → still_slot allowed members slots slot_of x ≡ 0
  gone x h = cond-false _ (at 0 slot_of x) 0 h

  -- one without a slot stays without
  none : (x : ℕ) → at 0 slot_of x ≡ 0 → still_slot allowed members slots slot_of x ≡ 0
  none x z = ⊎_elim (λ (h : may_stand allowed members slots x (at 0 slot_of x) ≡ true). still x h ∙ z) (gone x) (cases_Bool (may_stand allowed members slots x (at 0 slot_of x)))

  module _ (slot_of' member_in' : List ℕ) (i : ℕ) (i0 : 0 < i) (d : Dropping allowed members slots slot_of slot_of' member_in' i) where
    pub drop_stays : (0 < at 0 slot_of i → may_stand allowed members slots i (at 0 slot_of i) ≡ true) → Dropping allowed members slots slot_of slot_of' member_in' (i + 1)
    drop_stays f =
        let here : at 0 slot_of' i ≡ still_slot allowed members slots slot_of i =
        d.after i (omega arith)
        ∙ ⊎_elim
        (λ (h : 0 < at 0 slot_of i). sym (still i (f h)))
        (λ (h : at 0 slot_of i ≤ 0). let z : at 0 slot_of i ≡ 0 = omega arith in z ∙ sym (none i z))
        (cases_lt 0 (at 0 slot_of i)) in
        record {
          agrees = d.agrees;
          before = λ x l. ⊎_elim (λ (e : x ≡ i). subst (λ (y : ℕ). at 0 slot_of' y ≡ still_slot allowed members slots slot_of y) (sym e) here) (λ (n : x ≡ i → ⊥). d.before x (omega arith)) (cases_eq x i);
          after = λ x l. d.after x (omega arith);
        }

    pub drop_freed : (slot_of'' member_in'' : List ℕ) → 0 < at 0 slot_of i → may_stand allowed members slots i (at 0 slot_of i) ≡ false → Freed (at 0 slot_of i) slot_of' member_in' slot_of'' member_in''
        → Dropping allowed members slots slot_of slot_of'' member_in'' (i + 1)
    drop_freed slot_of'' member_in'' s0 out fr =
        let there : at 0 member_in' (at 0 slot_of i) ≡ i = d.agrees.there i (at 0 slot_of i) (omega arith) s0 (d.after i (omega arith)) in
        let here : at 0 slot_of'' i ≡ still_slot allowed members slots slot_of i = ap (at 0 slot_of'') (sym there) ∙ fr.gone (omega arith) ∙ sym (gone i out) in
        let other : (x : ℕ) → (x ≡ i → ⊥) → at 0 slot_of'' x ≡ at 0 slot_of' x = λ x n. fr.others x (λ q. n (q ∙ there)) in
        record {
          agrees = fr.agrees;
          before = λ x l. ⊎_elim (λ (e : x ≡ i). subst (λ (y : ℕ). at 0 slot_of'' y ≡ still_slot allowed members slots slot_of y) (sym e) here) (λ (n : x ≡ i → ⊥). other x n ∙ d.before x (omega arith)) (cases_eq x i);
          after = λ x l. other x (λ e. omega arith) ∙ d.after x (omega arith);
        }

    pub drop_end : length slot_of < i → (x : ℕ) → at 0 slot_of' x ≡ still_slot allowed members slots slot_of x
    drop_end h x =
        ⊎_elim
        (λ (l : x < i). d.before x l)
        (λ (l : i ≤ x).
        let z : at 0 slot_of x ≡ 0 = ⊎_elim (λ (p : 0 < at 0 slot_of x). absurd (let b = at_in slot_of x p in let w : ⊥ = omega arith in w)) (λ (p : at 0 slot_of x ≤ 0). omega arith) (cases_lt 0 (at 0 slot_of x)) in
        d.after x l ∙ z ∙ sym (none x z))
        (cases_lt x i)

  -- the slot of member i is vacated, if it has one
  drop_vacated : (plan plan' : Held) (i s : ℕ) → 0 < i → Dropping allowed members slots slot_of plan.slot_of plan.programme_in i → s ≡ at 0 plan.slot_of i → may_stand allowed members slots i s ≡ false → plan' ≡ vacated plan s
      → Dropping allowed members slots slot_of plan'.slot_of plan'.programme_in (i + 1)
  drop_vacated plan plan' i s i0 d e out v =
      let was : s ≡ at 0 slot_of i = e ∙ d.after i (omega arith) in
      ⊎_elim
      (λ (s0 : 0 < s).
      let there : at 0 plan.programme_in s ≡ i = d.agrees.there i s (omega arith) s0 (sym e) in
      let fr = vacate_frees plan plan' d.agrees s s0 (at_in plan.programme_in s (omega arith)) v in
      drop_freed plan.slot_of plan.programme_in i i0 d plan'.slot_of plan'.programme_in (omega arith) (subst (λ (t : ℕ). may_stand allowed members slots i t ≡ false) was out) (subst (λ (t : ℕ). Freed t plan.slot_of plan.programme_in plan'.slot_of plan'.programme_in) was fr))
      (λ (le : s ≤ 0).
      let z : s ≡ 0 = omega arith in
      let same : plan' ≡ plan = v ∙ ap (vacated plan) z in
      subst (λ (h : Held). Dropping allowed members slots slot_of h.slot_of h.programme_in (i + 1)) (sym same) (drop_stays plan.slot_of plan.programme_in i i0 d (λ h. absurd (let w : ⊥ = omega arith in w))))
      (cases_lt 0 s)

  drop_kept : (plan plan' : Held) (i s : ℕ) → 0 < i → Dropping allowed members slots slot_of plan.slot_of plan.programme_in i → s ≡ at 0 plan.slot_of i → may_stand allowed members slots i s ≡ true → plan' ≡ plan
      → Dropping allowed members slots slot_of plan'.slot_of plan'.programme_in (i + 1)
  drop_kept plan plan' i s i0 d e in_place same =
      let was : s ≡ at 0 slot_of i = e ∙ d.after i (omega arith) in
      subst (λ (h : Held). Dropping allowed members slots slot_of h.slot_of h.programme_in (i + 1)) (sym same) (drop_stays plan.slot_of plan.programme_in i i0 d (λ h. subst (λ (t : ℕ). may_stand allowed members slots i t ≡ true) was in_place))

  -- what is left may stand
  pub all_stand : (slot_of' : List ℕ) → ((x : ℕ) → at 0 slot_of' x ≡ still_slot allowed members slots slot_of x) → AllStand allowed members slots slot_of'
  all_stand slot_of' same x h =
      ⊎_elim
      (λ (e : may_stand allowed members slots x (at 0 slot_of x) ≡ true). subst (λ (s : ℕ). may_stand allowed members slots x s ≡ true) (sym (same x ∙ still x e)) e)
      (λ (e : may_stand allowed members slots x (at 0 slot_of x) ≡ false). absurd (let z = same x ∙ gone x e in let w : ⊥ = omega arith in w))
      (cases_Bool (may_stand allowed members slots x (at 0 slot_of x)))

-- one turn, from a plan of that attendance: the slot of member i is vacated, unless the pair may stand
module _ (allowed : ℕ → ℕ → Bool) (attendance : Sides Bool) (slot_of : List ℕ) where
  pub drop_turn : (plan plan' : Held) (i s : ℕ) (stays : Bool) → 0 < i → Dropping allowed attendance.programmes attendance.slots slot_of plan.slot_of plan.programme_in i
      → plan.attendance ≡ attendance → s ≡ at 0 plan.slot_of i → stays ≡ may_stand allowed plan.attendance.programmes plan.attendance.slots i s
      → ((stays ≡ false) × (plan' ≡ vacated plan s)) ⊎ ((stays ≡ true) × (plan' ≡ plan))
      → Dropping allowed attendance.programmes attendance.slots slot_of plan'.slot_of plan'.programme_in (i + 1) × (plan'.attendance ≡ attendance)
  drop_turn plan plan' i s stays i0 d a e m (inl v) = (
    drop_vacated allowed attendance.programmes attendance.slots slot_of plan plan' i s i0 d e (sym (m ∙ ap (λ (b : Sides Bool). may_stand allowed b.programmes b.slots i s) a) ∙ v.0) v.1,
    ap (λ (h : Held). h.attendance) v.1 ∙ a,
  )
  drop_turn plan plan' i s stays i0 d a e m (inr v) = (
    drop_kept allowed attendance.programmes attendance.slots slot_of plan plan' i s i0 d e (sym (m ∙ ap (λ (b : Sides Bool). may_stand allowed b.programmes b.slots i s) a) ∙ v.0) v.1,
    ap (λ (h : Held). h.attendance) v.1 ∙ a,
  )

-- where each pair may stand, whoever stands in a slot that may be used may be moved
module _ (allowed : ℕ → ℕ → Bool) (members slots : List Bool) (slot_of member_in : List ℕ) (ag : Agrees slot_of member_in) (law : AllStand allowed members slots slot_of) where
  pub clear_member : (x : ℕ) → at false members x ≡ true → 0 < at 0 slot_of x → at false slots (at 0 slot_of x) ≡ true
  clear_member x p h = (and_parts (at false slots (at 0 slot_of x)) _ (and_parts (at false members x) _ (law x h)).1).0
