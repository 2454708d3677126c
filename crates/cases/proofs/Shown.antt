-- The cases hold: by computation, and by the theorem that a plan that passes is best.
use Rattle.std.proofs.Common.{◌≡◌, ℕ, ◌≤◌, Bool, true, false, ◌&&◌, eqb, List, [], ◌∷◌, length, sym, refl, subst, ⊎_elim, true≢false, arith}
use Rattle.std.proofs.lemmas.Bool.{and_parts, or_cases, eqb-true, false_from_ne_true}
use Rattle.refusal.specs.Counting.{within}
use Rattle.priority.specs.declared.number.Number.{Number}
use Rattle.matching.specs.Check.{TestedIsBest}
use Rattle.matching.specs.Lists.{certificate_of}
use Rattle.pages.specs.PageLaws.{listed}
use Rattle.desk.specs.Ledger.{Ledger, board, new_ledger}
use Rattle.cases.specs.Weeks.{number, by_number, passes_with, IsBest, week, its_plan, its_certificate, other_plan, barred_week, lifted_week, two_slots}
use Rattle.cases.specs.Cases.{NothingToPlan, Digits, Tally, RejectedByRuleTwo, AfterBar, AfterLift, HigherSlotIsFilled, HouseKind, LateHours, RefusedBars, cases, AllHold}
use Rattle.cases.proofs.RuleTests.{rules_are_three}

-- each pair of a list is within the counts
abbrev within_counts : ℕ → ℕ → List (ℕ × ℕ) → Bool
within_counts n m [] = true
within_counts n m (p ∷ ps) = (within n p.0 && within m p.1) && within_counts n m ps

listed_within : (n m : ℕ) (ps : List (ℕ × ℕ)) → within_counts n m ps ≡ true → (i s : ℕ) → listed ps i s ≡ true → (within n i && within m s) ≡ true
listed_within n m [] all i s h = absurd (true≢false (sym h))
listed_within n m (p ∷ ps) all i s h =
    let (here, rest) = and_parts (within n p.0 && within m p.1) (within_counts n m ps) all in
    ⊎_elim
    (λ (e : (eqb p.0 i && eqb p.1 s) ≡ true).
    let (is-i, is-s) = and_parts (eqb p.0 i) (eqb p.1 s) e in
    subst (λ (k : ℕ). (within n k && within m s) ≡ true) (eqb-true p.0 i is-i) (subst (λ (k : ℕ). (within n p.0 && within m k) ≡ true) (eqb-true p.1 s is-s) here))
    (λ (e : listed ps i s ≡ true). listed_within n m ps rest i s e)
    (or_cases (eqb p.0 i && eqb p.1 s) (listed ps i s) h)

digits : Digits
digits = (refl, refl, refl)

tally : Tally
tally = refl

house_kind : HouseKind
house_kind = (refl, refl, refl)

late_hours : LateHours
late_hours = (refl, refl)

refused_bars : RefusedBars
refused_bars = (refl, refl)

-- one case, and those behind it
infixr 5 ◌then◌
◌then◌ : {A B : Type 0} → A → B → A × B
a then b = (a, b)

module _ (tested_is_best : TestedIsBest by_number) where
  -- a plan within the counts that passes is best
  best : (l : Ledger Number) (plan : List (ℕ × ℕ)) (entries : List ℕ) → within_counts (length l.programmes) (length l.slots) plan ≡ true → passes_with l plan entries ≡ true → IsBest l plan
  best l plan entries in-counts passing =
      tested_is_best (board by_number l) (listed plan) (certificate_of (length l.programmes) entries)
      (listed_within (length l.programmes) (length l.slots) plan in-counts)
      (λ i s h. absurd (true≢false (sym h))) passing

  its_plan_best : IsBest week its_plan
  its_plan_best = best week its_plan its_certificate refl refl

  -- at priority 2 it places one programme, and the week's plan two
  other_plan_not_best : IsBest week other_plan → ⊥
  other_plan_not_best is-best = let few : 2 ≤ 1 = is-best.programmes (number 2 tt) (listed its_plan) its_plan_best.lawful in omega arith

  never_passes : (entries : List ℕ) → passes_with week other_plan entries ≡ false
  never_passes entries = false_from_ne_true (passes_with week other_plan entries) (λ passing. other_plan_not_best (best week other_plan entries refl passing))

  second_slot_best : IsBest two_slots ((1, 2) ∷ [])
  second_slot_best = best two_slots ((1, 2) ∷ []) (0 ∷ 1 ∷ 1 ∷ []) refl refl

  -- at priority 4 it fills no slot, and the best plan one
  first_slot_not_best : IsBest two_slots ((1, 1) ∷ []) → ⊥
  first_slot_not_best is-best = let few : 1 ≤ 0 = is-best.slots (number 4 tt) (listed ((1, 2) ∷ [])) second_slot_best.lawful in omega arith

  nothing_to_plan : NothingToPlan
  nothing_to_plan = (refl, best new_ledger [] [] refl refl)

  rejected_by_rule_two : RejectedByRuleTwo
  rejected_by_rule_two = (refl, record { lawfully = refl; keeps_one = refl; breaks_two = refl; keeps_three = refl; slots_keep = refl })

  after_bar : AfterBar
  after_bar = (refl, refl, best barred_week other_plan (0 ∷ 3 ∷ 3 ∷ 0 ∷ 0 ∷ []) refl refl, refl)

  after_lift : AfterLift
  after_lift = (refl, refl, best lifted_week its_plan its_certificate refl refl)

  higher_slot_is_filled : HigherSlotIsFilled
  higher_slot_is_filled = (second_slot_best, first_slot_not_best)

  pub all_hold : AllHold cases
  all_hold =
      nothing_to_plan
      then digits
      then tally
      then (refl, its_plan_best)
      then refl
      then rejected_by_rule_two
      then rules_are_three
      then (other_plan_not_best, never_passes)
      then after_bar
      then after_lift
      then higher_slot_is_filled
      then house_kind
      then late_hours
      then refused_bars
      then tt
