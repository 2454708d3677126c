-- What the judge says of a plan that was filled from a page.
use Rattle.std.proofs.Common.{◌≡◌, ℕ, ◌+◌, Bool, true, false, not, ◌&&◌, eqb, List, [], ◌∷◌, length, is_some, is_err, IfOk, Some, None, Ok, Err, Option, Result, sym, refl, ap, ◌∙◌, subst}
use mathlib.Core.Path.{fun_ext}
use Rattle.std.proofs.lemmas.Result.{IfOk-weaker}
use Rattle.std.proofs.lemmas.Bool.{and_parts, and_from, eqb-true, eq-eqb, both_ways, cond-true}
use Rattle.refusal.specs.declared.Refusal.{Refusal}
use Rattle.refusal.specs.Refusals.{refusal_of, first_refusal}
use Rattle.source.specs.Pairs.{Pairs, holds, turned}
use Rattle.matching.specs.Board.{Plan}
use Rattle.matching.specs.Check.{passes}
use Rattle.matching.specs.Lists.{plan_of, certificate_of}
use Rattle.plan.specs.declared.filling.Twice.{Twice}
use Rattle.plan.specs.Held.{Held, Sides, everyone}
use Rattle.plan.specs.Parts.{parts_fit, board_of}
use Rattle.plan.specs.Filling.{first_twice, found_twice, twice_of, PlanOf}
use Rattle.judge.specs.Handed.{all_fit, judge_refusals}
use Rattle.commands.specs.Judging.{pages_fit, verdict_refusals, is_plan, accepts}

filled : (r : Result (Unit {0}) Twice) {Q : Type 0} → is_err r ≡ false → IfOk r (λ _. Q) → Q
filled (Ok x) e m = m
filled (Err t) e m = absurd (both_ways true e refl)

none_twice : (r : Result (Unit {0}) Twice) → is_err r ≡ false → twice_of r ≡ None
none_twice (Ok x) e = refl
none_twice (Err t) e = absurd (both_ways true e refl)

once : (a b : Option ℕ) → found_twice a b ≡ None → (not (is_some a) && not (is_some b)) ≡ true
once None None e = refl
once None (Some s) e = let z : ◌≡◌ {A = ℕ} 0 1 = cc in absurd (native.Mathlib.Nat.suc-ne-zero 0 (sym z))
once (Some i) b e = let z : ◌≡◌ {A = ℕ} 0 1 = cc in absurd (native.Mathlib.Nat.suc-ne-zero 0 (sym z))

module _ {P : Type 0} (reaches : P → P → Bool) (pairs : Pairs) (xs ys : List P) (q : Pairs) (certificate : List ℕ) (h : Held) (filling : Result (Unit {0}) Twice) (r : Result Bool Refusal)
    (fit : pages_fit pairs xs ys q certificate ≡ true)
    (ok : is_err filling ≡ false)
    (told : twice_of filling ≡ found_twice (first_twice q) (first_twice (turned q)))
    (after : IfOk filling (λ _. PlanOf q h)) where
  plan : PlanOf q h
  plan = filled filling ok after

  parts : parts_fit pairs xs ys ≡ true
  parts = (and_parts (parts_fit pairs xs ys) _ fit).0

  rest : ((eqb q.programmes pairs.programmes && eqb q.slots pairs.slots) && eqb (length certificate) (pairs.programmes + pairs.slots)) ≡ true
  rest = (and_parts (parts_fit pairs xs ys) _ fit).1

  counts : (eqb q.programmes pairs.programmes && eqb q.slots pairs.slots) ≡ true
  counts = (and_parts (eqb q.programmes pairs.programmes && eqb q.slots pairs.slots) (eqb (length certificate) (pairs.programmes + pairs.slots)) rest).0

  programmes_same : q.programmes ≡ pairs.programmes
  programmes_same = eqb-true _ _ (and_parts (eqb q.programmes pairs.programmes) (eqb q.slots pairs.slots) counts).0

  slots_same : q.slots ≡ pairs.slots
  slots_same = eqb-true _ _ (and_parts (eqb q.programmes pairs.programmes) (eqb q.slots pairs.slots) counts).1

  all_fits : all_fit pairs xs ys h certificate ≡ true
  all_fits =
      and_from _ _
      (and_from _ _ parts (and_from _ _ (eq-eqb _ _ (plan.counts.0 ∙ programmes_same)) (eq-eqb _ _ (plan.counts.1 ∙ slots_same))))
      (and_parts (eqb q.programmes pairs.programmes && eqb q.slots pairs.slots) (eqb (length certificate) (pairs.programmes + pairs.slots)) rest).1

  pub same_answer : refusal_of r ≡ first_refusal (judge_refusals pairs xs ys h certificate) → refusal_of r ≡ first_refusal (verdict_refusals pairs xs ys q certificate)
  same_answer a =
      a ∙ ap {B = Option ℕ} (λ b. first_refusal ((not b, 12) ∷ [])) all_fits ∙ sym (ap {B = Option ℕ} (λ b. first_refusal ((not b, 12) ∷ [])) fit)

  is_a_plan : is_plan q ≡ true
  is_a_plan = once (first_twice q) (first_twice (turned q)) (sym told ∙ none_twice filling ok)

  attends : h.attendance ≡ everyone pairs.programmes pairs.slots
  attends = plan.attendance ∙ ap (λ n. everyone n q.slots) programmes_same ∙ ap (everyone pairs.programmes) slots_same

  same_plan : plan_of h.slot_of ≡ holds q
  same_plan = fun_ext (λ i. fun_ext (λ s. plan.pairs i s))

  pub same_verdict : IfOk r (λ b. b ≡ passes (board_of reaches pairs xs ys h.attendance) (plan_of h.slot_of) (certificate_of (length xs) certificate)) → IfOk r (λ b. b ≡ accepts reaches pairs xs ys q certificate)
  same_verdict m =
      IfOk-weaker r _ _ (λ b e.
      e
      ∙ ap (λ (here : Sides Bool). passes (board_of reaches pairs xs ys here) (plan_of h.slot_of) (certificate_of (length xs) certificate)) attends
      ∙ ap (λ (p : Plan). passes (board_of reaches pairs xs ys (everyone pairs.programmes pairs.slots)) p (certificate_of (length xs) certificate)) same_plan
      ∙ sym (cond-true (is_plan q) _ false is_a_plan))
      m

-- the same of equal lists
pub at_lists : {P : Type 0} {xs ys xs' ys' : List P} (F : List P → List P → Type 0) → xs ≡ xs' → ys ≡ ys' → F xs ys → F xs' ys'
at_lists {xs} {ys} {xs'} {ys'} F ex ey h = subst (λ zs. F xs' zs) ey (subst (λ zs. F zs ys) ex h)

-- ---- what the one test of a table says
pub test_passed : (t : Bool) (k : ℕ) → None ≡ first_refusal ((not t, k) ∷ []) → t ≡ true
test_passed true k e = refl
test_passed false k e = let z : ◌≡◌ {A = ℕ} 0 1 = cc in absurd (native.Mathlib.Nat.suc-ne-zero 0 (sym z))
