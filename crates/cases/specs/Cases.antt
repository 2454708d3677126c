-- The station's worked cases: what the definitions say of small weeks. One statement each, in one list.
use Rattle.std.specs.Prelude.{◌≡◌, ℕ, true, false, List, [], ◌∷◌, Some, None}
use Rattle.refusal.specs.Refusals.{first_refusal}
use Rattle.priority.specs.Order.{higher}
use Rattle.source.specs.Pairs.{holds}
use Rattle.matching.specs.Board.{turn, turned}
use Rattle.matching.specs.Certificate.{Certificate}
use Rattle.matching.specs.Check.{rules}
use Rattle.matching.specs.Lists.{certificate_of}
use Rattle.pages.specs.PageLaws.{listed}
use Rattle.desk.specs.declared.edits.OpenEdit.TheVariants.{Bar, Lift}
use Rattle.desk.specs.Edits.{open_refusals}
use Rattle.desk.specs.Ledger.{new_ledger, board}
use Rattle.cases.specs.RuleTests.{rule_one, rule_two, rule_three, RulesAreThree}
use Rattle.cases.specs.Weeks.{number, by_number, house, by_house, is_lawful, digit_at, tally_at, passes_with, IsBest, week, its_plan, its_certificate, other_plan, barred_week, lifted_week, two_slots, late_pairs}

-- No programmes and no slots: the plan of no pairs passes with the certificate of no entries, and is best.
abbrev pub NothingToPlan : Type 0
NothingToPlan = (passes_with new_ledger [] [] ≡ true) × IsBest new_ledger []

-- The score digits of the week's plan at 1, 2 and 3 are 3, 1 and 0.
abbrev pub Digits : Type 0
Digits =
    (digit_at week its_plan (number 1 tt) ≡ 3)
    × (digit_at week its_plan (number 2 tt) ≡ 1)
    × (digit_at week its_plan (number 3 tt) ≡ 0)

-- Its tally at 2: two programmes placed, and two slots filled.
abbrev pub Tally : Type 0
Tally = tally_at week its_plan (number 2 tt) ≡ (2, 2)

-- It passes with the certificate 1 1 1 0 0, and is best.
abbrev pub PassesWithItsCertificate : Type 0
PassesWithItsCertificate = (passes_with week its_plan its_certificate ≡ true) × IsBest week its_plan

-- With 0 1 1 0 0 it does not pass: programme 1 is not placed, and does not name itself.
abbrev pub FailsWithAnother : Type 0
FailsWithAnother = passes_with week its_plan (0 ∷ 1 ∷ 1 ∷ 0 ∷ 0 ∷ []) ≡ false

-- The other plan with 3 3 3 0 0 does not pass, and what fails is rule 2 of the programmes:
pub record OnlyRuleTwoFails (plan : List (ℕ × ℕ)) (certificate : Certificate) : Type 0 where
  -- the plan is lawful,
  pub lawfully : is_lawful week plan ≡ true
  -- the programmes keep rules 1 and 3, and break rule 2,
  pub keeps_one : rule_one (board by_number week) (listed plan) certificate.programmes ≡ true
  pub breaks_two : rule_two (board by_number week) (listed plan) certificate.programmes ≡ false
  pub keeps_three : rule_three (board by_number week) (listed plan) certificate.programmes ≡ true
  -- and the slots keep all three.
  pub slots_keep : rules (turn (board by_number week)) (turned (listed plan)) certificate.slots ≡ true

abbrev pub RejectedByRuleTwo : Type 0
RejectedByRuleTwo =
    (passes_with week other_plan (3 ∷ 3 ∷ 3 ∷ 0 ∷ 0 ∷ []) ≡ false)
    × OnlyRuleTwoFails other_plan (certificate_of 3 (3 ∷ 3 ∷ 3 ∷ 0 ∷ 0 ∷ []))

-- These tests of one rule each are together the test of `matching`, for every week of the number kind.
abbrev pub TestsOfTheRules : Type 0
TestsOfTheRules = RulesAreThree by_number

-- The other plan is not best, and passes with no certificate.
abbrev pub OtherPlanIsNotBest : Type 0
OtherPlanIsNotBest = (IsBest week other_plan → ⊥) × ((entries : List ℕ) → passes_with week other_plan entries ≡ false)

-- Bar (2, 1) is accepted. Then the other plan passes with 0 3 3 0 0 and is best, and the first is not lawful.
abbrev pub AfterBar : Type 0
AfterBar =
    (first_refusal (open_refusals week (Bar 2 1)) ≡ None)
    × (passes_with barred_week other_plan (0 ∷ 3 ∷ 3 ∷ 0 ∷ 0 ∷ []) ≡ true)
    × IsBest barred_week other_plan
    × (is_lawful barred_week its_plan ≡ false)

-- Lift (2, 1) is accepted after that. Then the first plan passes with its certificate, and is best again.
abbrev pub AfterLift : Type 0
AfterLift =
    (first_refusal (open_refusals barred_week (Lift 2 1)) ≡ None)
    × (passes_with lifted_week its_plan its_certificate ≡ true)
    × IsBest lifted_week its_plan

-- One programme and two slots of priorities 9 and 4: to fill the second is best, to fill the first is not.
abbrev pub HigherSlotIsFilled : Type 0
HigherSlotIsFilled = IsBest two_slots ((1, 2) ∷ []) × (IsBest two_slots ((1, 1) ∷ []) → ⊥)

-- Class 1 with 11 weeks is higher than class 1 with 10, and class 0 with 0 weeks is higher than both.
abbrev pub HouseKind : Type 0
HouseKind =
    (higher by_house (house 1 11 tt tt) (house 1 10 tt tt) ≡ true)
    × (higher by_house (house 0 0 tt tt) (house 1 11 tt tt) ≡ true)
    × (higher by_house (house 0 0 tt tt) (house 1 10 tt tt) ≡ true)

-- A programme for late hours that is no longer than the slots may not run in the one that starts at 1,259, and
-- may in the one that starts at 1,260.
abbrev pub LateHours : Type 0
LateHours = (holds late_pairs 1 1 ≡ false) × (holds late_pairs 1 2 ≡ true)

-- In the week, bar (1, 2) is refused with 16, since that pair is not allowed, and bar (4, 1) with 10, since there
-- is no programme 4.
abbrev pub RefusedBars : Type 0
RefusedBars = (first_refusal (open_refusals week (Bar 1 2)) ≡ Some 16) × (first_refusal (open_refusals week (Bar 4 1)) ≡ Some 10)

-- All cases.
abbrev pub cases : List (Type 0)
cases =
    NothingToPlan
    ∷ Digits
    ∷ Tally
    ∷ PassesWithItsCertificate
    ∷ FailsWithAnother
    ∷ RejectedByRuleTwo
    ∷ TestsOfTheRules
    ∷ OtherPlanIsNotBest
    ∷ AfterBar
    ∷ AfterLift
    ∷ HigherSlotIsFilled
    ∷ HouseKind
    ∷ LateHours
    ∷ RefusedBars
    ∷ []

-- Each statement of a list holds.
abbrev pub AllHold : List (Type 0) → Type 0
AllHold [] = Unit {0}
AllHold (statement ∷ statements) = statement × AllHold statements
