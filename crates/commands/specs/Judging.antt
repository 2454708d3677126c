-- What weekjudge answers: when the pages do not fit together, and when the plan is accepted.
use Rattle.std.specs.Prelude.{◌≡◌, ℕ, ◌+◌, Bool, true, false, cond, not, ◌&&◌, List, [], ◌∷◌, map, length, is_some, is_err, Ok, Err, string_bytes, Result, ◌==◌}
use Rattle.priority.specs.declared.number.Number.{Number}
use Rattle.priority.specs.Kinds.{number_reaches}
use Rattle.source.specs.Pairs.{Pairs, holds, turned}
use Rattle.matching.specs.Check.{passes}
use Rattle.matching.specs.Lists.{certificate_of}
use Rattle.plan.specs.Held.{everyone}
use Rattle.plan.specs.Parts.{parts_fit, board_of}
use Rattle.plan.specs.Filling.{first_twice}
use Rattle.refusal.specs.Refusals.{number_of as refusal_number}
use Rattle.priority_pages.specs.PriorityPages.{number_of}
use Rattle.page_writer.specs.declared.answer_line.Declined.{Declined}
use Rattle.page_writer.specs.declared.answer_line.Declined.TheVariants.{Page, Week}
use Rattle.page_writer.specs.declared.PageText.{PageText}
use Rattle.page_writer.specs.Texts.{texts_of}
use Rattle.page_writer.specs.AnswerLines.{answer_lines}
use Rattle.commands.specs.Pages.{Filed, read_filed}

-- The number kind: the smaller number is higher.
abbrev pub reaches_number : Number → Number → Bool
reaches_number a b = number_reaches a.value b.value

-- The rankings have the counts of the pairs, the plan page has them, and the certificate has one entry
-- for each programme and each slot. Else 12.
abbrev pub pages_fit : {P : Type 0} → Pairs → List P → List P → Pairs → List ℕ → Bool
pages_fit pairs programmes slots plan certificate =
    parts_fit pairs programmes slots
    && ((plan.programmes == pairs.programmes && plan.slots == pairs.slots)
    && length certificate == pairs.programmes + pairs.slots)

abbrev pub verdict_refusals : {P : Type 0} → Pairs → List P → List P → Pairs → List ℕ → List (Bool × ℕ)
verdict_refusals pairs programmes slots plan certificate = (not (pages_fit pairs programmes slots plan certificate), 12) ∷ []

-- No programme and no slot stands in two pairs.
abbrev pub is_plan : Pairs → Bool
is_plan plan = not (is_some (first_twice plan)) && not (is_some (first_twice (turned plan)))

-- The pairs are a plan, and it passes with the certificate where everyone is present.
abbrev pub accepts : {P : Type 0} → (P → P → Bool) → Pairs → List P → List P → Pairs → List ℕ → Bool
accepts reaches pairs programmes slots plan certificate =
    cond (is_plan plan) (passes (board_of reaches pairs programmes slots (everyone pairs.programmes pairs.slots)) (holds plan) (certificate_of (length programmes) certificate)) false

-- What the five pages come to, where all are read: the filed week, with its priorities as values of the number kind.
pub record Read (b1 b2 b3 b4 b5 : List ℕ) (filed : Filed) (xs ys : List Number) : Type 0 where
  pub read : read_filed b1 b2 b3 b4 b5 ≡ Ok filed
  pub programmes : map number_of xs ≡ filed.week.programmes
  pub slots : map number_of ys ≡ filed.week.slots

-- The counts fit together or not, as b says.
abbrev pub Fits : Filed → List Number → List Number → Bool → Type 0
Fits filed xs ys b = pages_fit filed.week.pairs xs ys filed.plan filed.entries ≡ b

-- The verdict on five pages: the fault of the first faulty page; or 12 where the counts do not fit
-- together; or else whether the plan page is a plan that passes with the certificate page.
abbrev pub Judged : List ℕ → List ℕ → List ℕ → List ℕ → List ℕ → Result Bool Declined → Type 0
Judged pairs programmes slots plan proof (Err (Page fault)) = read_filed pairs programmes slots plan proof ≡ Err fault
Judged pairs programmes slots plan proof (Err (Week refusal)) =
    (filed : Filed) × (xs : List Number) × (ys : List Number) × Read pairs programmes slots plan proof filed xs ys × Fits filed xs ys false × (refusal_number refusal ≡ 12)
Judged pairs programmes slots plan proof (Ok accepted) =
    (filed : Filed) × (xs : List Number) × (ys : List Number) × Read pairs programmes slots plan proof filed xs ys × Fits filed xs ys true
    × (accepted ≡ accepts reaches_number filed.week.pairs xs ys filed.plan filed.entries)

-- What weekjudge writes: the line of the verdict on the five pages, or else that of the refusal.
pub record Answered (b1 b2 b3 b4 b5 : List ℕ) (answer : Result PageText PageText) : Type 0 where
  pub judged : Result Bool Declined
  pub verdict : Judged b1 b2 b3 b4 b5 judged
  pub told : texts_of answer ≡ answer_lines judged
