-- What weekplan and weekproof write, from the bytes of the three pages of a week.
use Rattle.std.specs.Prelude.{◌≡◌, ℕ, ◌+◌, Bool, true, false, List, map, length, Ok, Err, Result}
use Rattle.refusal.specs.Refusals.{number_of as refusal_number}
use Rattle.priority.specs.declared.number.Number.{Number}
use Rattle.source.specs.Pairs.{Pairs}
use Rattle.matching.specs.Board.{Board, Best}
use Rattle.matching.specs.Check.{passes}
use Rattle.matching.specs.Lists.{plan_of, certificate_of}
use Rattle.plan.specs.Held.{everyone}
use Rattle.plan.specs.Parts.{parts_fit, board_of}
use Rattle.priority_pages.specs.PriorityPages.{number_of}
use Rattle.page_writer.specs.declared.answer_line.Declined.{Declined}
use Rattle.page_writer.specs.declared.answer_line.Declined.TheVariants.{Page, Week}
use Rattle.page_writer.specs.AnswerLines.{refusal_line}
use Rattle.page_writer.specs.declared.PageText.{PageText}
use Rattle.page_writer.specs.Texts.{texts_of}
use Rattle.filing.specs.declared.Wanted.{Wanted}
use Rattle.filing.specs.Filed.{page_of}
use Rattle.commands.specs.Judging.{reaches_number}
use Rattle.commands.specs.Pages as pages

-- A planned week: how many slots it has, the slot of each programme, and the entries of the certificate.
pub record Solution : Type 0 where
  pub slots : ℕ
  pub slot_of : List ℕ
  pub certificate : List ℕ

-- The board of a week that was read: everyone is present.
abbrev pub board : Pairs → List Number → List Number → Board reaches_number
board pairs xs ys = board_of reaches_number pairs xs ys (everyone pairs.programmes pairs.slots)

-- The plan is a best one for the week, and passes with the certificate.
pub record Solves (pairs : Pairs) (xs ys : List Number) (solution : Solution) : Type 0 where
  -- one place for each programme, the week's slots, and one entry for each programme and each slot
  pub places : length solution.slot_of ≡ pairs.programmes
  pub slots : solution.slots ≡ pairs.slots
  pub entries : length solution.certificate ≡ pairs.programmes + pairs.slots
  -- the test of the certificate says yes
  pub passing : passes (board pairs xs ys) (plan_of solution.slot_of) (certificate_of (length xs) solution.certificate) ≡ true
  -- hence no lawful plan places more programmes, or fills more slots, at any priority
  pub best : Best (board pairs xs ys) (plan_of solution.slot_of)

-- The page wanted of a planned week: of its plan, or of its certificate.
abbrev pub page_for : Wanted → Solution → List ℕ
page_for wanted solution = page_of wanted solution.slots solution.slot_of solution.certificate

-- The text is the page wanted of a solution of the week.
pub record PageOf (wanted : Wanted) (pairs : Pairs) (xs ys : List Number) (text : List ℕ) : Type 0 where
  pub solution : Solution
  pub solves : Solves pairs xs ys solution
  pub written : text ≡ page_for wanted solution

-- What the three pages come to, where all are read: the week, with its priorities as values of the number kind.
pub record Read (b1 b2 b3 : List ℕ) (week : pages.Week) (xs ys : List Number) : Type 0 where
  pub read : pages.read_week b1 b2 b3 ≡ Ok week
  pub programmes : map number_of xs ≡ week.programmes
  pub slots : map number_of ys ≡ week.slots

-- The week of the three pages, where the counts fit together or not, as b says.
pub record Taken (b1 b2 b3 : List ℕ) (b : Bool) : Type 0 where
  pub week : pages.Week
  pub xs : List Number
  pub ys : List Number
  pub read : Read b1 b2 b3 week xs ys
  pub fit : parts_fit week.pairs xs ys ≡ b

-- What a program finds in the three pages: the fault of the first faulty page; or 12 where the counts do
-- not fit together; or else a solution of the week.
abbrev pub Found : List ℕ → List ℕ → List ℕ → Result Solution Declined → Type 0
Found b1 b2 b3 (Err (Page fault)) = pages.read_week b1 b2 b3 ≡ Err fault
Found b1 b2 b3 (Err (Week refusal)) = Taken b1 b2 b3 false × (refusal_number refusal ≡ 12)
Found b1 b2 b3 (Ok solution) = (taken : Taken b1 b2 b3 true) × Solves taken.week.pairs taken.xs taken.ys solution

-- What it writes then: the page wanted, or else the line of the refusal.
abbrev pub texts_for : Wanted → Result Solution Declined → Result (List ℕ) (List ℕ)
texts_for wanted (Ok solution) = Ok (page_for wanted solution)
texts_for wanted (Err declined) = Err (refusal_line declined)

-- What a program answers: the text for what it found.
pub record Answered (wanted : Wanted) (b1 b2 b3 : List ℕ) (answer : Result PageText PageText) : Type 0 where
  pub found : Result Solution Declined
  pub holds : Found b1 b2 b3 found
  pub told : texts_of answer ≡ texts_for wanted found

-- Before the line of a refusal is written: the text is the page wanted, or there is such a refusal.
abbrev pub Came : Wanted → List ℕ → List ℕ → List ℕ → List ℕ → Result (Unit {0}) Declined → Type 0
Came wanted b1 b2 b3 text (Ok x) = (taken : Taken b1 b2 b3 true) × PageOf wanted taken.week.pairs taken.xs taken.ys text
Came wanted b1 b2 b3 text (Err declined) = Found b1 b2 b3 (Err declined)
