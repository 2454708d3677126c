-- From what planning promises to what a week promises.
use Rattle.std.proofs.Common.{◌≡◌, ℕ, Bool, true, eqb, List, length, IfOk, vec_items, Result, sym, ap, ◌∙◌, subst, arith, length-append}
use lib.ListN.{length-replicate}
use Rattle.std.proofs.lemmas.Bool.{and_parts, and_from, eq-eqb, eqb-true}
use Rattle.refusal.specs.declared.Refusal.{Refusal}
use Rattle.refusal.specs.Refusals.{refusal_of, first_refusal}
use Rattle.source.specs.Pairs.{Pairs}
use Rattle.matching.specs.Board.{Best}
use Rattle.matching.specs.Check.{passes}
use Rattle.matching.specs.Lists.{plan_of, certificate_of}
use Rattle.plan.specs.declared.Plan.{Plan}
use Rattle.plan.specs.Held.{Held, Sides, held, nothing}
use Rattle.plan.specs.Parts.{parts_fit, fits, board_of, whole_refusals}
use Rattle.plan.proofs.Asked.{accepted_whole}
use Rattle.plan.proofs.Fills.{accepted}
use Rattle.planner.specs.declared.certificate.Certificate.{Certificate}
use Rattle.planner.specs.Settling.{entries}
use Rattle.planner.proofs.Plans.{plan_lengths, same_lengths}
use Rattle.week.specs.Planned.{Planned}

module _ {P : Type 0} (reaches : P → P → Bool) (pairs : Pairs) (xs ys : List P) (old new : Plan) (certificate : Certificate) (r : Result (Unit {0}) Refusal)
    (fit : fits pairs xs ys (held old) ≡ true)
    (answer : refusal_of r ≡ first_refusal (whole_refusals (fits pairs xs ys (held old)))) where
  done : {Q : Type 0} → IfOk r (λ _. Q) → Q
  done {Q} m = (accepted r (first_refusal (whole_refusals (fits pairs xs ys (held old)))) (λ _. Q) answer (sym (accepted_whole _ (sym fit))) m).1

  -- planning keeps the attendance, so that the counts still fit
  kept_fits : (held new).attendance ≡ (held old).attendance → fits pairs xs ys (held new) ≡ true
  kept_fits e =
      let len = same_lengths (held old) (held new) (plan_lengths old) (plan_lengths new) e in
      let a = and_parts (parts_fit pairs xs ys) _ fit in
      let b = and_parts (eqb (length (held old).slot_of) pairs.programmes) _ a.1 in
      and_from _ _ a.0 (and_from _ _ (eq-eqb _ _ (len.0 ∙ eqb-true _ _ b.0)) (eq-eqb _ _ (len.1 ∙ eqb-true _ _ b.1)))

  pub planned :
      (held new).attendance ≡ (held old).attendance
      → IfOk r (λ _. passes (board_of reaches pairs xs ys (held old).attendance) (plan_of (held new).slot_of) (certificate_of (length xs) (entries certificate)) ≡ true)
      → IfOk r (λ _. Best (board_of reaches pairs xs ys (held old).attendance) (plan_of (held new).slot_of))
      → IfOk r (λ _. (length (vec_items certificate.programmes) ≡ length xs) × (length (vec_items certificate.slots) ≡ length ys))
      → Planned reaches pairs xs ys (held new) (entries certificate)
  planned e p b n =
      let counts = done n in
      record {
        fit = kept_fits e;
        entries = length-append (vec_items certificate.programmes) (vec_items certificate.slots) ∙ omega (arith, counts.0, counts.1);
        passing = subst (λ (here : Sides Bool). passes (board_of reaches pairs xs ys here) (plan_of (held new).slot_of) (certificate_of (length xs) (entries certificate)) ≡ true) (sym e) (done p);
        best = subst (λ (here : Sides Bool). Best (board_of reaches pairs xs ys here) (plan_of (held new).slot_of)) (sym e) (done b);
      }
