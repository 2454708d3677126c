-- What the tests of `passes` come to on the board of the tables.
use Rattle.std.proofs.Common.{◌≡◌, ℕ, ◌<◌, Bool, true, false, not, ◌&&◌, ◌||◌, eqb, ◌≢◌, List, length, sym, refl, ap, ◌∙◌, subst, ⊎_elim, arith}
use mathlib.Core.Path.{fun_ext}
use Rattle.std.proofs.lemmas.Bool.{and_parts, and_from, or_cases, or_left, or_right, not_from_false, eqb-true, eq-eqb, ne_eqb, cases_eq, both_ways, false≢true}
use Rattle.refusal.specs.Counting.{any, all, within, ◌implies◌}
use Rattle.refusal.specs.Tables.{at, holds_at}
use Rattle.refusal.proofs.Counts.{same_if, all_same, any_none, any_some, any_here, all_at, all_from, within_bounds}
use Rattle.refusal.proofs.Entries.{mark_within}
use Rattle.source.specs.Pairs.{holds, turned}
use Rattle.matching.specs.Board.{Board, Plan, turn, attends, free, may_run, placed}
use Rattle.matching.specs.Certificate.{blocks}
use Rattle.matching.specs.Check.{Within, pair_lawful, lawful, unplaced_names_itself, slot_blocked, naming_right, rules}
use Rattle.matching.specs.Lists.{plan_of}
use Rattle.matching.proofs.Lists.{plan_parts, plan_from, one_slot, one_programme, points_at, entry_within, placed_is}
use Rattle.judge.specs.Handed.{Handed, turn_handed, Fit, board_in}
use Rattle.judge.specs.Tests.{left_out, slot_kept, keeps, stands}

pub turn_fit : {P : Type 0} {t : Handed P} → Fit t → Fit (turn_handed t)
turn_fit ok = record {
  programmes = ok.slots;
  slots = ok.programmes;
  slot_of = ok.programme_in;
  programme_in = ok.slot_of;
  programmes_present = ok.slots_present;
  slots_present = ok.programmes_present;
  there = ok.back;
  back = ok.there;
}

-- the turned source allows the turned pairs
and_swap : (a b c : Bool) → ((a && b) && c) ≡ ((b && a) && c)
and_swap true true c = refl
and_swap true false c = refl
and_swap false true c = refl
and_swap false false c = refl

pub board_turned : {P : Type 0} (f : P → P → Bool) (t : Handed P) → board_in f (turn_handed t) ≡ turn (board_in f t)
board_turned f t =
    let p = t.pairs in
    let same : (λ (s i : ℕ). holds (turned p) s i) ≡ (λ (s i : ℕ). holds p i s) = fun_ext (λ s. fun_ext (λ i. and_swap (within p.slots s) (within p.programmes i) (p.allowed i s))) in
    ap {B = Board f}
    (λ (a : Plan). record {
      programmes = (turn (board_in f t)).programmes;
      slots = (turn (board_in f t)).slots;
      allowed = a;
      locked = (turn (board_in f t)).locked;
    })
    same

shape : (u e a b z h r : Bool) → (u && (not (not e) || (a && (b && (z && (h && r)))))) ≡ ((u && (e || (a && ((b && z) && h)))) && (e || r))
shape false e a b z h r = refl
shape true true a b z h r = refl
shape true false false b z h r = refl
shape true false true false z h r = refl
shape true false true true false h r = refl
shape true false true true true false r = refl
shape true false true true true true r = refl

swap : (a b c : Bool) → ((a && b) implies c) ≡ (b implies (a implies c))
swap false false c = refl
swap false true c = refl
swap true b c = refl

module _ {P : Type 0} (f : P → P → Bool) (t : Handed P) (ok : Fit t) where
  abbrev B : Board f
  B = board_in f t

  abbrev so : List ℕ
  so = t.plan.slot_of

  abbrev pi : List ℕ
  pi = t.plan.programme_in

  abbrev here : ℕ → Bool
  here = at false t.plan.attendance.programmes

  abbrev n : ℕ
  n = length t.programmes

  abbrev m : ℕ
  m = length t.slots

  attends_is : (i : ℕ) → attends B.programmes i ≡ here i
  attends_is i = same_if _ _ (λ h. (and_parts (within n i) _ h).1) (λ h. and_from (within n i) _ (subst (λ (k : ℕ). within k i ≡ true) ok.programmes_present (mark_within t.plan.attendance.programmes i h)) h)

  free_is : (i : ℕ) → free B i ≡ here i
  free_is i = ap (λ b. attends B.programmes i && not b) (any_none m) ∙ same_if _ _ (λ h. (and_parts (attends B.programmes i) true h).0) (λ h. and_from _ _ h refl) ∙ attends_is i

  slot_in : (i s : ℕ) → plan_of so i s ≡ true → within m s ≡ true
  slot_in i s h =
      let (s0, e, w) = plan_parts so i s h in
      subst (λ (k : ℕ). within k s ≡ true) ok.programme_in (subst (λ (k : ℕ). within (length pi) k ≡ true) e (entry_within so pi ok.there i (omega arith)))

  programme_in_count : (i s : ℕ) → plan_of so i s ≡ true → within n i ≡ true
  programme_in_count i s h = subst (λ (k : ℕ). within k i ≡ true) ok.slot_of (plan_parts so i s h).2

  pub within_plan : Within B (plan_of so)
  within_plan i s h = and_from _ _ (programme_in_count i s h) (slot_in i s h)

  unplaced_is : (i : ℕ) → not (placed B (plan_of so) i) ≡ eqb (at 0 so i) 0
  unplaced_is i = ap not (placed_is so pi ok.there m ok.programme_in i) ∙ again (eqb (at 0 so i) 0)
    where
      again : (b : Bool) → not (not b) ≡ b
      again true = refl
      again false = refl

  -- who holds slot s
  holder_is : (names : List ℕ) (w s : ℕ) → 0 < s → any (blocks B (plan_of so) (at 0 names) w s) n ≡ holds_at f t.programmes (at 0 names (at 0 pi s)) w
  holder_is names w s s0 = same_if _ _
      (λ h.
      let (j, in-j, held-j) = any_some (blocks B (plan_of so) (at 0 names) w s) n h in
      let (runs, rest) = and_parts (plan_of so j s) _ held-j in
      let (_, e, _) = plan_parts so j s runs in
      let at-s = points_at so pi j s ok.there s0 e in
      subst (λ (k : ℕ). holds_at f t.programmes (at 0 names k) w ≡ true) (sym at-s) (and_parts (not (eqb (at 0 names j) 0)) _ rest).1)
      (λ h.
      let named : (k : ℕ) → k ≡ at 0 names (at 0 pi s) → k ≢ 0 = λ k e z. both_ways _ (ap (λ v. holds_at f t.programmes v w) (sym e ∙ z)) h in
      let held_by : at 0 pi s ≢ 0 = λ z. named (at 0 names (at 0 pi s)) refl (ap (at 0 names) z) in
      let runs = plan_from so (at 0 pi s) s s0 (points_at pi so s (at 0 pi s) ok.back (omega arith) refl) in
      any_here (blocks B (plan_of so) (at 0 names) w s) n (at 0 pi s) (programme_in_count (at 0 pi s) s runs)
      (and_from _ _ runs (and_from _ _ (not_from_false _ (ne_eqb _ 0 (named _ refl))) h)))

  may_run_is : (i s : ℕ) → may_run B i s ≡ (here i && (at false t.plan.attendance.slots s && holds t.pairs i s))
  may_run_is i s = ap (λ b. b && (attends B.slots s && holds t.pairs i s)) (attends_is i) ∙ ap (λ b. here i && (b && holds t.pairs i s)) (slot_attends s)
    where
      slot_attends : (s : ℕ) → attends B.slots s ≡ at false t.plan.attendance.slots s
      slot_attends s = same_if _ _ (λ h. (and_parts (within m s) _ h).1) (λ h. and_from (within m s) _ (subst (λ (k : ℕ). within k s ≡ true) ok.slots_present (mark_within t.plan.attendance.slots s h)) h)

-- ---- the rules
module _ {P : Type 0} (f : P → P → Bool) (t : Handed P) (ok : Fit t) (names : List ℕ) where
  abbrev C : Board f
  C = board_in f t

  abbrev plan : Plan
  plan = plan_of t.plan.slot_of

  blocked_is : (i s : ℕ) → within (length t.slots) s ≡ true → slot_blocked C plan (at 0 names) i s ≡ slot_kept f t names i s
  blocked_is i s w =
      let s0 = (within_bounds _ s w).0 in
      ap (λ b. (b && holds t.pairs i s) implies any (blocks C plan (at 0 names) (at 0 names i) s) (length t.programmes)) (free_is f (turn_handed t) (turn_fit ok) s)
      ∙ ap (λ b. (at false t.plan.attendance.slots s && holds t.pairs i s) implies b) (holder_is f t ok names (at 0 names i) s (omega arith))
      ∙ swap (at false t.plan.attendance.slots s) (holds t.pairs i s) _

  keeps_is : (i : ℕ) → (unplaced_names_itself C plan (at 0 names) i && naming_right C plan (at 0 names) i) ≡ keeps f t names i
  keeps_is i =
      let w : ℕ = at 0 names i in
      let places : List ℕ = t.plan.slot_of in
      let present : ℕ → Bool = at false t.plan.attendance.programmes in
      let out : ℕ → Bool = λ k. eqb (at 0 places k) 0 in
      let every : Bool = all (slot_blocked C plan (at 0 names) i) (length t.slots) in
      let F : Bool → Bool → Bool → Bool → Bool → Bool = λ a b u v r. ((a && u) implies eqb w i) && (not (eqb w 0) implies (a && (b && (v && (holds_at f t.programmes i w && r))))) in
      let s1 = ap (λ a. F a (free C w) (not (placed C plan i)) (not (placed C plan w)) every) (free_is f t ok i) in
      let s2 = ap (λ b. F (present i) b (not (placed C plan i)) (not (placed C plan w)) every) (free_is f t ok w) in
      let s3 = ap (λ u. F (present i) (present w) u (not (placed C plan w)) every) (unplaced_is f t ok i) in
      let s4 = ap (λ v. F (present i) (present w) (out i) v every) (unplaced_is f t ok w) in
      let s5 = ap (λ r. F (present i) (present w) (out i) (out w) r) (all_same (slot_blocked C plan (at 0 names) i) (slot_kept f t names i) (length t.slots) (blocked_is i)) in
      s1 ∙ s2 ∙ s3 ∙ s4 ∙ s5 ∙ shape (left_out t.plan.attendance.programmes places i implies eqb w i) (eqb w 0) (present i) (present w) (out w) (holds_at f t.programmes i w) _

  pub rules_is : rules C plan (at 0 names) ≡ all (keeps f t names) (length t.programmes)
  rules_is = all_same _ _ (length t.programmes) (λ i w. keeps_is i)

-- ---- the plan is lawful
implies_from : (a b : Bool) → (a ≡ true → b ≡ true) → (a implies b) ≡ true
implies_from true b h = h refl
implies_from false b h = refl

implies_at : (a b : Bool) → (a implies b) ≡ true → a ≡ true → b ≡ true
implies_at true b h e = h
implies_at false b h e = absurd (false≢true e)

module _ {P : Type 0} (f : P → P → Bool) (t : Handed P) (ok : Fit t) where
  abbrev D : Board f
  D = board_in f t

  abbrev table : List ℕ
  table = t.plan.slot_of

  pair_is : (i s : ℕ) → (plan_of table i s ≡ true → may_run D i s ≡ true) → pair_lawful D (plan_of table) i s ≡ true
  pair_is i s h =
      let plan : Plan = plan_of table in
      and_from _ _ (implies_from (plan i s) _ h) (and_from _ _ refl (and_from _ _
      (all_from (λ k. (plan i s && plan i k) implies eqb s k) (length t.slots) (λ k w. implies_from (plan i s && plan i k) _ (λ q. let (a, b) = and_parts (plan i s) _ q in eq-eqb s k (one_slot table i s k a b))))
      (all_from (λ j. (plan i s && plan j s) implies eqb i j) (length t.programmes) (λ j w. implies_from (plan i s && plan j s) _ (λ q. let (a, b) = and_parts (plan i s) _ q in eq-eqb i j (one_programme table t.plan.programme_in ok.there i j s a b))))))

  stands_is : (i : ℕ) → all (pair_lawful D (plan_of table) i) (length t.slots) ≡ stands t i
  stands_is i =
      let s : ℕ = at 0 table i in
      same_if _ _
      (λ h. ⊎_elim
      (λ (z : s ≡ 0). or_left _ _ (eq-eqb s 0 z))
      (λ (nz : s ≡ 0 → ⊥).
      let runs = plan_from table i s (omega arith) refl in
      let l = all_at (pair_lawful D (plan_of table) i) _ s h (slot_in f t ok i s runs) in
      or_right _ _ (sym (may_run_is f t ok i s) ∙ implies_at (plan_of table i s) _ (and_parts _ _ l).0 runs))
      (cases_eq s 0))
      (λ h. all_from (pair_lawful D (plan_of table) i) (length t.slots) (λ k w. pair_is i k (λ q.
      let (k0, e, v) = plan_parts table i k q in
      subst (λ (z : ℕ). may_run D i z ≡ true) e (may_run_is f t ok i s ∙ ⊎_elim (λ (z : eqb s 0 ≡ true). absurd (omega (arith, eqb-true s 0 z))) (λ z. z) (or_cases (eqb s 0) _ h)))))

  pub lawful_is : lawful D (plan_of table) ≡ all (stands t) (length t.programmes)
  lawful_is = all_same _ _ (length t.programmes) (λ i w. stands_is i)
