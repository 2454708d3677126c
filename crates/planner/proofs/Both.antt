-- Two passes, one on each side, and the board that their parts stand for.
use Rattle.std.proofs.Common.{◌≡◌, ℕ, Bool, true, false, not, ◌&&◌, List, ◌++◌, length, drop, sym, refl, ap, ◌∙◌, subst, ⊎_elim, arith}
use mathlib.Core.Path.{fun_ext}
use lib.Seq.{take-append_seam, drop-append_seam}
use Rattle.std.proofs.lemmas.Bool.{cases_Bool, and_parts, and_from, and_left, and_right, both_ways, not_from_false, eq-eqb, false≢true}
use Rattle.refusal.specs.Counting.{any, within}
use Rattle.refusal.specs.Tables.{at, holds_at}
use Rattle.refusal.proofs.Counts.{within_from, any_none, same_if}
use Rattle.priority.specs.Order.{Ordered}
use Rattle.source.specs.Pairs.{Pairs, inside, holds, turned}
use Rattle.matching.specs.Board.{Board, Lawful, Best}
use Rattle.matching.specs.Certificate.{Certificate, Passes}
use Rattle.matching.specs.Check.{passes}
use Rattle.matching.specs.Lists.{plan_of, certificate_of}
use Rattle.matching.proofs.Soundness.{may_run_parts, passing_is_best}
use Rattle.matching.proofs.Checks.{test_is_exact}
use Rattle.plan.specs.Held.{Held, Sides, turned_sides}
use Rattle.plan.specs.Parts.{board_of}
use Rattle.search.specs.Scene.{Agrees}
use Rattle.search.specs.Outcomes.{side_fits}
use Rattle.search.proofs.Agreement.{mark_pos, mark_in}
use Rattle.search.proofs.Parts.{fit_parts}
use Rattle.planner.specs.Run.{setting, setting_of, Clear, Ran, AllStand, names_of}
use Rattle.planner.proofs.Bridge.{Stands, shows_plan, clear_other, passes_of}
use Rattle.planner.proofs.Dropping.{clear_member}
use Rattle.planner.proofs.Plans.{Lengths}

-- ---- the board of the parts
-- who is present is free, since no pair is locked
present_free : (marks : List Bool) (n k i : ℕ) → length marks ≡ n → ((within n i && at false marks i) && not (any (λ s. false) k)) ≡ at false marks i
present_free marks n k i len =
    ⊎_elim
    (λ (f : at false marks i ≡ true).
    let w = mark_in marks i f in
    and_from _ _ (and_from _ _ (within_from n i (mark_pos marks i f) (omega arith)) f) (not_from_false _ (any_none k)) ∙ sym f)
    (λ (f : at false marks i ≡ false). and_left _ _ (and_right (within n i) _ f) ∙ sym f)
    (cases_Bool (at false marks i))

module _ {P : Type 0} (reaches : P → P → Bool) (pairs : Pairs) (xs ys : List P) (attendance : Sides Bool) (programmes_len : length attendance.programmes ≡ length xs) (slots_len : length attendance.slots ≡ length ys) where
  abbrev board : Board reaches
  board = board_of reaches pairs xs ys attendance

  pub stands_board : Stands board (holds pairs) xs ys attendance.programmes attendance.slots
  stands_board = record {
    programmes = refl;
    slot_side = refl;
    allows = λ i s f p. refl;
    programmes_free = λ i. present_free attendance.programmes (length xs) (length ys) i programmes_len;
    slots_free = λ s. present_free attendance.slots (length ys) (length xs) s slots_len;
  }

  -- a plan whose pairs may stand is lawful on it
  pub lawful_board : (slot_of member_in : List ℕ) → Agrees slot_of member_in → AllStand (holds pairs) attendance.programmes attendance.slots slot_of → Lawful board (plan_of slot_of)
  lawful_board slot_of member_in ag law = record {
    fits = λ i s h.
        let (i0, s0, e) = (shows_plan slot_of).to i s h in
        let (p, rest) = and_parts (at false attendance.programmes i) _ (law i (omega arith)) in
        let (q, o) = and_parts (at false attendance.slots (at 0 slot_of i)) _ rest in
        let q' : at false attendance.slots s ≡ true = ap (at false attendance.slots) (sym e) ∙ q in
        let pw = mark_in attendance.programmes i p in
        let qw = mark_in attendance.slots s q' in
        and_from _ _ (and_from _ _ (within_from (length xs) i i0 (omega arith)) p)
        (and_from _ _ (and_from _ _ (within_from (length ys) s s0 (omega arith)) q') (ap (holds pairs i) (sym e) ∙ o));
    one_slot = λ i s t h k. sym ((shows_plan slot_of).to i s h).2 ∙ ((shows_plan slot_of).to i t k).2;
    one_programme = λ i j s h k.
        let (i0, s0, e) = (shows_plan slot_of).to i s h in
        let (j0, _, f) = (shows_plan slot_of).to j s k in
        sym (ag.there i s i0 s0 e) ∙ ag.there j s j0 s0 f;
    keeps = λ i s h. absurd (both_ways false refl h);
  }

-- ---- the second pass is made on the turned plan and source
holds_swapped : (pairs : Pairs) (s i : ℕ) → holds (turned pairs) s i ≡ holds pairs i s
holds_swapped pairs s i =
    same_if _ _
    (λ h. let (w, o) = and_parts (inside (turned pairs) s i) _ h in let (a, b) = and_parts (within pairs.slots s) _ w in and_from _ _ (and_from _ _ b a) o)
    (λ h. let (w, o) = and_parts (inside pairs i s) _ h in let (a, b) = and_parts (within pairs.programmes i) _ w in and_from _ _ (and_from _ _ b a) o)

holds_turned : (pairs : Pairs) → holds (turned pairs) ≡ (λ s i. holds pairs i s)
holds_turned pairs = fun_ext (λ s. fun_ext (λ i. holds_swapped pairs s i))

abbrev swapped : Sides Bool → Sides Bool
swapped a = record { programmes = a.slots; slots = a.programmes }

module _ {P : Type 0} (reaches : P → P → Bool) (pairs : Pairs) (xs ys : List P) (first after turned_after : Held) (names : List ℕ)
    (one : Ran (setting_of reaches pairs xs first.attendance) first.slot_of first.programme_in after.slot_of after.programme_in names)
    (same : after.attendance ≡ first.attendance) (turn : turned_after ≡ turned_sides after) where
  turned_attendance : turned_after.attendance ≡ swapped first.attendance
  turned_attendance = ap (λ (h : Held). h.attendance) turn ∙ ap swapped same

  pub second_fits : side_fits pairs xs first ≡ true → length first.programme_in ≡ length ys → Lengths first → Lengths after → side_fits (turned pairs) ys turned_after ≡ true
  second_fits fits len a b =
      let fit = fit_parts pairs xs first fits in
      let p = ap (λ (s : Sides Bool). length s.programmes) same in
      let q = ap (λ (s : Sides Bool). length s.slots) same in
      let u : length turned_after.slot_of ≡ length ys = ap (λ (h : Held). length h.slot_of) turn ∙ (let z : length after.programme_in ≡ length ys = omega (arith, a.slots, b.slots) in z) in
      let v : pairs.programmes ≡ length turned_after.programme_in = fit.0 ∙ (let z : length xs ≡ length after.slot_of = omega (arith, a.programmes, b.programmes, fit.1) in z) ∙ sym (ap (λ (h : Held). length h.programme_in) turn) in
      let w : pairs.slots ≡ length ys = omega (arith, fit.2) in
      and_from _ _ (eq-eqb _ _ w) (and_from _ _ (eq-eqb _ _ u) (eq-eqb _ _ v))

  pub second_clear : Agrees first.slot_of first.programme_in → AllStand (holds pairs) first.attendance.programmes first.attendance.slots first.slot_of
      → Clear (setting_of reaches (turned pairs) ys turned_after.attendance) turned_after.programme_in
  second_clear ag law =
      let clear = clear_other (setting_of reaches pairs xs first.attendance) first.slot_of first.programme_in after.slot_of after.programme_in
      (clear_member (holds pairs) first.attendance.programmes first.attendance.slots first.slot_of first.programme_in ag law) one.moves in
      subst (λ (a : Sides Bool). Clear (setting_of reaches (turned pairs) ys a) turned_after.programme_in) (sym turned_attendance)
      (subst (λ (h : Held). Clear (setting_of reaches (turned pairs) ys (swapped first.attendance)) h.programme_in) (sym turn) clear)

  module _ (again last : Held) (slot_names : List ℕ)
      (two : Ran (setting_of reaches (turned pairs) ys turned_after.attendance) turned_after.slot_of turned_after.programme_in again.slot_of again.programme_in slot_names)
      (still : again.attendance ≡ turned_after.attendance) (turn_back : last ≡ turned_sides again) where
    pub both_attendance : last.attendance ≡ first.attendance
    both_attendance = ap (λ (h : Held). h.attendance) turn_back ∙ ap swapped (still ∙ turned_attendance)

    -- the second pass, as one on the tables of the first
    second : Ran (setting (λ s i. holds pairs i s) (holds_at reaches ys) first.attendance.slots first.attendance.programmes) after.programme_in after.slot_of last.programme_in last.slot_of slot_names
    second =
        subst (λ (h : Held). Ran (setting (λ s i. holds pairs i s) (holds_at reaches ys) first.attendance.slots first.attendance.programmes) after.programme_in after.slot_of h.programme_in h.slot_of slot_names) (sym turn_back)
        (subst (λ (a : ℕ → ℕ → Bool). Ran (setting a (holds_at reaches ys) first.attendance.slots first.attendance.programmes) after.programme_in after.slot_of again.slot_of again.programme_in slot_names) (holds_turned pairs)
        (subst (λ (a : Sides Bool). Ran (setting_of reaches (turned pairs) ys a) after.programme_in after.slot_of again.slot_of again.programme_in slot_names) turned_attendance
        (subst (λ (h : Held). Ran (setting_of reaches (turned pairs) ys turned_after.attendance) h.slot_of h.programme_in again.slot_of again.programme_in slot_names) turn two)))

    pub both_pass : side_fits pairs xs first ≡ true → length first.programme_in ≡ length ys → Lengths first → Lengths last → Agrees first.slot_of first.programme_in
        → AllStand (holds pairs) first.attendance.programmes first.attendance.slots first.slot_of → Passes (board_of reaches pairs xs ys first.attendance) (plan_of last.slot_of) (names_of names slot_names)
    both_pass fits len a b ag law =
        let fit = fit_parts pairs xs first fits in
        let p = ap (λ (s : Sides Bool). length s.programmes) both_attendance in
        let q = ap (λ (s : Sides Bool). length s.slots) both_attendance in
        let programmes_len : length first.attendance.programmes ≡ length xs = omega (arith, a.programmes, fit.1) in
        let slots_len : length first.attendance.slots ≡ length ys = omega (arith, a.slots) in
        passes_of (holds pairs) xs ys first.attendance.programmes first.attendance.slots first.slot_of first.programme_in after.slot_of after.programme_in last.slot_of last.programme_in names slot_names ag
        (omega (arith, b.programmes)) (omega (arith, b.slots)) one second (board_of reaches pairs xs ys first.attendance)
        (stands_board reaches pairs xs ys first.attendance programmes_len slots_len) (lawful_board reaches pairs xs ys first.attendance programmes_len slots_len first.slot_of first.programme_in ag law)

-- ---- the certificate as one list
pub names_listed : (names slot_names : List ℕ) (n : ℕ) → length names ≡ n → certificate_of n (names ++ slot_names) ≡ names_of names slot_names
names_listed names slot_names n e =
    subst (λ (k : ℕ). certificate_of k (names ++ slot_names) ≡ names_of names slot_names) e
    (ap (λ (l : List ℕ). names_of l (drop (length names) (names ++ slot_names))) (take-append_seam names slot_names) ∙ ap (names_of names) (drop-append_seam names slot_names))

-- ---- what passes is judged so, and is best
module _ {P : Type 0} {reaches : P → P → Bool} (laws : Ordered reaches) (pairs : Pairs) (xs ys : List P) (attendance : Sides Bool) (slot_of names slot_names : List ℕ)
    (pass : Passes (board_of reaches pairs xs ys attendance) (plan_of slot_of) (names_of names slot_names)) where
  pub pass_judged : length names ≡ length xs → passes (board_of reaches pairs xs ys attendance) (plan_of slot_of) (certificate_of (length xs) (names ++ slot_names)) ≡ true
  pass_judged len =
      subst (λ (c : Certificate). passes (board_of reaches pairs xs ys attendance) (plan_of slot_of) c ≡ true) (sym (names_listed names slot_names (length xs) len))
      ((test_is_exact (board_of reaches pairs xs ys attendance) (plan_of slot_of) (names_of names slot_names)
      (λ i s h. let r = may_run_parts (board_of reaches pairs xs ys attendance) i s (pass.lawful.fits i s h) in and_from _ _ (and_parts (within (length xs) i) _ r.0).0 (and_parts (within (length ys) s) _ r.1).0)
      (λ i s h. absurd (false≢true h))).1 pass)

  pub pass_best : Best (board_of reaches pairs xs ys attendance) (plan_of slot_of)
  pass_best = passing_is_best laws (board_of reaches pairs xs ys attendance) (plan_of slot_of) (names_of names slot_names) pass

-- the same of equal parts
pub passes_at : {P : Type 0} (reaches : P → P → Bool) (pairs : Pairs) (xs ys xs' ys' : List P) (attendance attendance' : Sides Bool) (slot_of names names' slot_names slot_names' : List ℕ)
    → xs' ≡ xs → ys' ≡ ys → attendance' ≡ attendance → names' ≡ names → slot_names' ≡ slot_names
    → Passes (board_of reaches pairs xs' ys' attendance') (plan_of slot_of) (names_of names slot_names) → Passes (board_of reaches pairs xs ys attendance) (plan_of slot_of) (names_of names' slot_names')
passes_at reaches pairs xs ys xs' ys' attendance attendance' slot_of names names' slot_names slot_names' p q e a b h = rw (← p, ← q, ← e, a, b) h
