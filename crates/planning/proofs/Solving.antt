-- From what a loaded week promises to what a program answers.
use Rattle.std.proofs.Common.{◌≡◌, ℕ, Bool, true, eqb, leb, List, length, IfOk, Result, sym, refl, ap, ◌∙◌, subst, arith}
use Rattle.std.proofs.lemmas.Result.{IfOk-weaker}
use Rattle.std.proofs.lemmas.Bool.{and_parts, eqb-true}
use Rattle.refusal.specs.declared.Refusal.{Refusal}
use Rattle.refusal.specs.Limits.{side}
use Rattle.refusal.specs.Refusals.{refusal_of, first_refusal}
use Rattle.priority.specs.declared.number.Number.{Number}
use Rattle.source.specs.Pairs.{Pairs}
use Rattle.matching.specs.Board.{Best}
use Rattle.matching.specs.Check.{passes}
use Rattle.matching.specs.Lists.{plan_of, certificate_of}
use Rattle.plan.specs.Held.{Sides, everyone}
use Rattle.plan.specs.Parts.{parts_fit, fits, board_of, whole_refusals}
use Rattle.plan.proofs.Asked.{accepted_whole}
use Rattle.filing.specs.declared.Wanted.{Wanted}
use Rattle.filing.specs.Filed.{page_of}
use Rattle.week.specs.Planned.{Planned}
use Rattle.week.specs.Sheets.{plan_in, certificate_in}
use Rattle.week.specs.declared.Sheet.{Sheet}
use Rattle.commands.specs.Judging.{reaches_number}
use Rattle.commands.proofs.Verdict.{at_lists}
use Rattle.planning.specs.Planning.{Solution, Solves, PageOf, page_for}

-- what a loaded week holds
module _ (pairs : Pairs) (xs ys : List Number) (sheet filed : Sheet)
    (kept : filed ≡ sheet)
    (attendance : (plan_in sheet).attendance ≡ everyone pairs.programmes pairs.slots)
    (planned : Planned reaches_number pairs xs ys (plan_in sheet) (certificate_in sheet)) where
  pub solution : Solution
  solution = record { slots = pairs.slots; slot_of = (plan_in filed).slot_of; certificate = certificate_in filed }

  held : Planned reaches_number pairs xs ys (plan_in filed) (certificate_in filed)
  held = subst (λ (s : Sheet). Planned reaches_number pairs xs ys (plan_in s) (certificate_in s)) (sym kept) planned

  here : (plan_in filed).attendance ≡ everyone pairs.programmes pairs.slots
  here = ap (λ (s : Sheet). (plan_in s).attendance) kept ∙ attendance

  parts : parts_fit pairs xs ys ≡ true
  parts = (and_parts (parts_fit pairs xs ys) _ held.fit).0

  counts : (length xs ≡ pairs.programmes) × (length ys ≡ pairs.slots)
  counts =
      let a = (and_parts (leb pairs.programmes side) _ parts).1 in
      let b = (and_parts (leb pairs.slots side) _ a).1 in
      let e = and_parts (eqb (length xs) pairs.programmes) _ b in
      (eqb-true _ _ e.0, eqb-true _ _ e.1)

  pub solves : Solves pairs xs ys solution
  unfolding solution
  solves =
      let own = (and_parts (parts_fit pairs xs ys) _ held.fit).1 in
      record {
        places = eqb-true _ _ (and_parts (eqb (length (plan_in filed).slot_of) pairs.programmes) _ own).0;
        slots = refl;
        entries = held.entries ∙ omega (arith, counts.0, counts.1);
        passing = subst (λ (at : Sides Bool). passes (board_of reaches_number pairs xs ys at) (plan_of (plan_in filed).slot_of) (certificate_of (length xs) (certificate_in filed)) ≡ true) here held.passing;
        best = subst (λ (at : Sides Bool). Best (board_of reaches_number pairs xs ys at) (plan_of (plan_in filed).slot_of)) here held.best;
      }

  -- the parts of a loaded week fit together, so that nothing is refused; the priorities are those that were read
  module _ (us vs : List Number) (r : Result (Unit {0}) Refusal) (text : List ℕ) (want : Wanted) (ex : xs ≡ us) (ey : ys ≡ vs) where
    pub same_answer : refusal_of r ≡ first_refusal (whole_refusals (fits pairs xs ys (plan_in filed))) → refusal_of r ≡ first_refusal (whole_refusals (parts_fit pairs us vs))
    same_answer a =
        at_lists (λ (fs gs : List Number). refusal_of r ≡ first_refusal (whole_refusals (parts_fit pairs fs gs))) ex ey
        (a ∙ sym (accepted_whole _ (sym held.fit)) ∙ accepted_whole _ (sym parts))

    pub page_written : IfOk r (λ _. text ≡ page_of want pairs.slots (plan_in filed).slot_of (certificate_in filed)) → IfOk r (λ _. PageOf want pairs us vs text)
    unfolding solution
    page_written m = IfOk-weaker r _ _ (λ _ e. at_lists (λ (fs gs : List Number). PageOf want pairs fs gs text) ex ey (record { solution = solution; solves = solves; written = e })) m
