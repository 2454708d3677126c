-- A week at a moment, what its calls are answered then, and what they change.
use Rattle.std.specs.Prelude.{ℕ, ◌+◌, Bool, true, false, cond, not, ◌&&◌, List, [], ◌∷◌, length, vec_items, ◌==◌, nat_le}
use Rattle.source.specs.Pairs.{Pairs}
use Rattle.matching.specs.Board as matching
use Rattle.matching.specs.Check.{passes}
use Rattle.matching.specs.Lists.{plan_of, certificate_of}
use Rattle.plan.specs.declared.Member.TheVariants.{Programme, Slot}
use Rattle.plan.specs.Parts.{parts_fit, whole_refusals, one_refusals}
use Rattle.week.specs.Calls.{certificate_refusals}
use Rattle.week.specs.Sheets.{over}
use Rattle.desk.specs.declared.calls.Question.{Question}
use Rattle.desk.specs.declared.calls.Question.TheVariants.{SlotOf, ProgrammeIn, Digit, Tally, Certificate, Judge, JudgeStored}
use Rattle.desk.specs.declared.calls.Call.{Call}
use Rattle.desk.specs.declared.calls.Call.TheVariants.{Load, Edit, Ask, Write, HandOver, Reopen}
use Rattle.filing.specs.Filed.{page_of}
use Rattle.desk.specs.Edits.{Rules}
use Rattle.desk.specs.Ledger.{Ledger, new_ledger, board, in_order, counted, loaded}
use Rattle.desk.specs.Told.{Told, done, slot, programme, digit, tally, certificate, verdict, page, not_offered, or_refused, is_done}

-- A week at a moment: whether it is open, its ledger, its plan as the slot of each programme or 0, and
-- its certificate as it would be told.
pub record Moment (P : Type 0) : Type 0 where
  pub opened : Bool
  pub ledger : Ledger P
  pub plan : List ℕ
  pub certificate : List ℕ

-- A new week: open, its ledger empty, no plan and no certificate.
abbrev pub new_moment : {P : Type 0} → Moment P
new_moment = record { opened = true; ledger = new_ledger; plan = []; certificate = [] }

-- ---- what questions are answered
-- The judge refuses 12 where the ledger is not in order, or the certificate has not one entry for each programme and each slot.
abbrev pub judge_tests : {P : Type 0} → Ledger P → List ℕ → List (Bool × ℕ)
judge_tests l entries = (not (in_order l && length entries == l.pairs.programmes + l.pairs.slots), 12) ∷ []

module _ {P : Type 0} (reaches : P → P → Bool) (l : Ledger P) (plan stored : List ℕ) where
  -- What the judge says of the plan with a certificate.
  abbrev pub judged : List ℕ → Told
  judged entries = or_refused (judge_tests l entries) (verdict (passes (board reaches l) (plan_of plan) (certificate_of (length l.programmes) entries)))

  abbrev pub answer_question : Question P → Told
  answer_question (SlotOf i) = or_refused (one_refusals (in_order l) (counted l (Programme i))) (slot (matching.slot_of (board reaches l) (plan_of plan) i))
  answer_question (ProgrammeIn s) = or_refused (one_refusals (in_order l) (counted l (Slot s))) (programme (matching.programme_in (board reaches l) (plan_of plan) s))
  answer_question (Digit p) = or_refused (whole_refusals (in_order l)) (digit (matching.digit (board reaches l) (plan_of plan) p))
  answer_question (Tally p) = or_refused (whole_refusals (in_order l)) (tally (matching.tally (board reaches l) (plan_of plan) p))
  answer_question (Certificate table) = or_refused (certificate_refusals (in_order l) (nat_le (length stored) (length (vec_items table)))) (certificate (over stored (vec_items table)))
  answer_question (Judge entries) = judged (vec_items entries)
  answer_question JudgeStored = judged stored

-- ---- what all calls are answered, and what they change
-- What the words of a call mean: the pairs of a source, which priority is at least as high, and the rules of the edits.
pub record Meaning (S P E : Type 0) : Type 0 where
  pub pairs : S → Pairs
  pub reaches : P → P → Bool
  pub rules : Rules S P E

abbrev pub meaning : {S P E : Type 0} → (S → Pairs) → (P → P → Bool) → Rules S P E → Meaning S P E
meaning pairs reaches rules = record { pairs = pairs; reaches = reaches; rules = rules }

module _ {S P E : Type 0} (M : Meaning S P E) where
  -- Load, edits and hand over are offered by an open week, pages and reopen by one that is handed over, and questions by both.
  abbrev pub answer : Call S P E → Moment P → Told
  answer (Load source xs ys) m = cond m.opened (or_refused (whole_refusals (parts_fit (M.pairs source) (vec_items xs) (vec_items ys))) done) not_offered
  answer (Edit edit) m = cond m.opened (or_refused (M.rules.refusals m.ledger edit) done) not_offered
  answer (Ask question) m = answer_question M.reaches m.ledger m.plan m.certificate question
  answer (Write want text) m = cond m.opened not_offered (or_refused (whole_refusals (in_order m.ledger)) (page (page_of want m.ledger.pairs.slots m.plan m.certificate)))
  answer HandOver m = cond m.opened done not_offered
  answer Reopen m = cond m.opened not_offered done

  -- What an accepted call enters in the ledger: load what is handed in, with everyone present, an edit as its rules say.
  abbrev pub entered : Call S P E → Ledger P → Ledger P
  entered (Load source xs ys) l = loaded (M.pairs source) (M.rules.possible source) (vec_items xs) (vec_items ys)
  entered (Edit edit) l = M.rules.entered edit l
  entered (Ask question) l = l
  entered (Write want text) l = l
  entered HandOver l = l
  entered Reopen l = l

  -- The ledger after a call: a call that is refused or not offered changes nothing.
  abbrev pub enter : Call S P E → Moment P → Ledger P
  enter call m = cond (is_done (answer call m)) (entered call m.ledger) m.ledger

-- Whether the week is open after a call.
abbrev pub open_after : {S P E : Type 0} → Call S P E → Bool → Bool
open_after (Load source xs ys) b = b
open_after (Edit edit) b = b
open_after (Ask question) b = b
open_after (Write want text) b = b
open_after HandOver b = false
open_after Reopen b = true

-- The calls that plan anew when they are accepted.
abbrev pub replans : {S P E : Type 0} → Call S P E → Bool
replans (Load source xs ys) = true
replans (Edit edit) = true
replans (Ask question) = false
replans (Write want text) = false
replans HandOver = false
replans Reopen = false
