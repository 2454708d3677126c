-- What the judge's answers come to: the verdict of `passes`, from its three parts.
use Rattle.std.proofs.Common.{◌≡◌, ℕ, ◌+◌, Bool, true, ◌&&◌, List, length, take, drop, sym, ap, ◌∙◌, arith}
use Rattle.std.proofs.lemmas.Bool.{and_parts, eqb-true, false≢true}
use Rattle.refusal.specs.Counting.{all}
use Rattle.refusal.specs.Tables.{at}
use Rattle.priority.specs.Order.{Ordered}
use Rattle.source.specs.Pairs.{Pairs}
use Rattle.matching.specs.Board.{Board, Plan, turn, turned, Best}
use Rattle.matching.specs.Check.{rules, passes}
use Rattle.matching.specs.Lists.{plan_of, certificate_of, Points}
use Rattle.matching.proofs.Checks.{tested_is_best}
use Rattle.matching.proofs.Lists.{plan_turned}
use Rattle.plan.specs.Held.{Held}
use Rattle.plan.specs.Parts.{fits}
use Rattle.plan.proofs.Asked.{fit_counts}
use Rattle.judge.specs.Handed.{all_fit, Handed, Fit, board_in}
use Rattle.judge.specs.Tests.{stands, verdict}
use Rattle.judge.proofs.Boards.{board_turned, within_plan, lawful_is}

module _ {P : Type 0} (f : P → P → Bool) (t : Handed P) (certificate : List ℕ) where
  abbrev D : Board f
  D = board_in f t

  abbrev plan : Plan
  plan = plan_of t.plan.slot_of

  abbrev pub passing : Bool
  passing = passes D plan (certificate_of (length t.programmes) certificate)

  module _ (ok : Fit t) where
    pub passing_is : passing ≡ verdict f t (take (length t.programmes) certificate) (drop (length t.programmes) certificate)
    passing_is =
        let first : Bool = rules D plan (at 0 (take (length t.programmes) certificate)) in
        let names : ℕ → ℕ = at 0 (drop (length t.programmes) certificate) in
        let stand : Bool = all (stands t) t.pairs.programmes in
        ap (λ b. b && (first && rules (turn D) (turned plan) names)) (lawful_is f t ok ∙ ap (all (stands t)) (sym ok.programmes))
        ∙ ap (λ q. stand && (first && rules (turn D) q names)) (plan_turned t.plan.slot_of t.plan.programme_in ok.there ok.back)
        ∙ ap (λ (d : Board f). stand && (first && rules d (plan_of t.plan.programme_in) names)) (sym (board_turned f t))

    pub best : Ordered f → passing ≡ true → Best D plan
    best ordered = tested_is_best ordered D plan (certificate_of (length t.programmes) certificate) (within_plan f t ok) (λ i s e. absurd (false≢true e))

-- ---- from the plan that was handed in to the view of it
module _ {P : Type 0} (pairs : Pairs) (xs ys : List P) (h : Held) where
  abbrev pub handed : Handed P
  handed = record { pairs = pairs; programmes = xs; slots = ys; plan = h }

  pub fit_of : true ≡ fits pairs xs ys h → Points h.slot_of h.programme_in → Points h.programme_in h.slot_of → length h.attendance.programmes ≡ length h.slot_of → length h.attendance.slots ≡ length h.programme_in → Fit handed
  fit_of ok there back programmes slots =
      let counts = fit_counts pairs xs ys h ok in
      record {
        programmes = counts.2;
        slots = counts.3;
        slot_of = counts.0;
        programme_in = counts.1;
        programmes_present = programmes ∙ counts.0;
        slots_present = slots ∙ counts.1;
        there = there;
        back = back;
      }

  pub seen : (xs' ys' : List P) (h' : Held) → xs' ≡ xs → ys' ≡ ys → h'.slot_of ≡ h.slot_of → h'.programme_in ≡ h.programme_in → h'.attendance.programmes ≡ h.attendance.programmes → h'.attendance.slots ≡ h.attendance.slots
      → record { pairs = pairs; programmes = xs'; slots = ys'; plan = h' } ≡ handed
  seen xs' ys' h' ex ey es ep ea eb = λ i. record {
    pairs = pairs;
    programmes = ex i;
    slots = ey i;
    plan = record { slot_of = es i; programme_in = ep i; attendance = record { programmes = ea i; slots = eb i } };
  }

  pub parts_of : (certificate : List ℕ) → true ≡ all_fit pairs xs ys h certificate → (true ≡ fits pairs xs ys h) × (length certificate ≡ length xs + length ys)
  parts_of certificate e =
      let (a, b) = and_parts (fits pairs xs ys h) _ (sym e) in
      let counts = fit_counts pairs xs ys h (sym a) in
      (sym a, omega (arith, eqb-true _ _ b, counts.2, counts.3))

-- the verdict on what is seen is the answer of `passes` on what was handed in
pub judged : {P : Type 0} (f : P → P → Bool) (certificate programme_names slot_names : List ℕ) (k : ℕ) (r : Bool) (t' t : Handed P) → t' ≡ t → Fit t → k ≡ length t.programmes → programme_names ≡ take k certificate → slot_names ≡ drop k certificate → r ≡ verdict f t' programme_names slot_names → r ≡ passing f t certificate
judged f certificate programme_names slot_names k r t' t e ok count front back v =
    v ∙ ap (λ u. verdict f u programme_names slot_names) e
    ∙ ap (λ xs. verdict f t xs slot_names) (front ∙ ap (λ n. take n certificate) count)
    ∙ ap (verdict f t (take (length t.programmes) certificate)) (back ∙ ap (λ n. drop n certificate) count)
    ∙ sym (passing_is f t certificate ok)
