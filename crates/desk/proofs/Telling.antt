-- From the answers of a week's calls to what is told.
use Rattle.std.proofs.Common.{◌≡◌, ℕ, ◌+◌, ◌-◌, Bool, leb, List, ◌++◌, length, take, drop, IfOk, Some, None, Ok, Err, vec_items, Option, Result, sym, refl, ap, ◌∙◌, arith, length-append}
use lib.Seq.{take-append_seam}
use Rattle.refusal.specs.Refusals.{first_refusal}
use Rattle.source.specs.Pairs.{Pairs}
use Rattle.plan.specs.Parts.{fits, whole_refusals}
use Rattle.plan.specs.Held.{Sides, held}
use Rattle.week.specs.declared.Sheet.{Sheet}
use Rattle.week.specs.Calls.{certificate_refusals}
use Rattle.week.specs.Sheets.{plan_in, certificate_in, entry_count, over}
use Rattle.desk.specs.Ledger.{account, in_order}
use Rattle.desk.specs.Told.{Told, refused, unless_refused, or_refused}
use Rattle.plan.specs.declared.Plan.{Plan}
use Rattle.desk.specs.declared.calls.Question.{Question}
use Rattle.desk.specs.Moments.{judged, answer_question}
use Rattle.desk.proofs.Entries.{plan_in_order}

-- where no test holds, what is told is told
pub accepted_told : (found : Option ℕ) (t u : Told) → None ≡ found → t ≡ u → t ≡ unless_refused found u
accepted_told found t u none e = e ∙ ap (λ (o : Option ℕ). unless_refused o u) none

-- where one does, its refusal is
pub refused_told : (found : Option ℕ) (n : ℕ) (u : Told) → Some n ≡ found → refused n ≡ unless_refused found u
refused_told found n u some = ap (λ (o : Option ℕ). unless_refused o u) some

-- what a question about the whole plan was answered, for the plan that was handed on
pub whole_told : {P : Type 0} (pairs : Pairs) (possible : ℕ → ℕ → Bool) (xs ys : List P) (t : Told) (u : Plan → Told) (plan plan' : Plan) → plan ≡ plan'
    → None ≡ first_refusal (whole_refusals (fits pairs xs ys (held plan))) → t ≡ u plan → t ≡ or_refused (whole_refusals (in_order (account pairs possible xs ys (held plan').attendance))) (u plan')
whole_told pairs possible xs ys t u plan plan' same none e =
    accepted_told _ t (u plan')
    (none ∙ ap {B = Option ℕ} (λ (p : Plan). first_refusal (whole_refusals (fits pairs xs ys (held p)))) same ∙ ap {B = Option ℕ} (λ (b : Bool). first_refusal (whole_refusals b)) (plan_in_order plan' pairs possible xs ys))
    (e ∙ ap u same)

-- what is written over a table is read off its start
pub read_over : (xs ys entries table last : List ℕ) (n : ℕ) → entries ≡ xs ++ ys → n ≡ length xs + length ys → last ≡ over entries table → take (n - 0) last ≡ entries
read_over xs ys entries table last n e count written =
    let len : n - 0 ≡ length entries = omega (arith, ap length e, length-append xs ys) in
    rw (written, len) (take-append_seam entries (drop (length entries) table))

-- an answer for the plan, the entries and the question that were handed on
module _ {P : Type 0} (reaches : P → P → Bool) (pairs : Pairs) (possible : ℕ → ℕ → Bool) (xs ys : List P) (plan plan' : Plan) (stored : List ℕ) (t : Told) (same : plan ≡ plan') where
  pub judged_same : (entries entries' : List ℕ) → entries ≡ entries'
      → t ≡ judged reaches (account pairs possible xs ys (held plan).attendance) (held plan).slot_of stored entries
      → t ≡ judged reaches (account pairs possible xs ys (held plan').attendance) (held plan').slot_of stored entries'
  judged_same entries entries' e h =
      h ∙ ap (λ (p : Plan). judged reaches (account pairs possible xs ys (held p).attendance) (held p).slot_of stored entries) same
      ∙ ap (λ (x : List ℕ). judged reaches (account pairs possible xs ys (held plan').attendance) (held plan').slot_of stored x) e

  pub question_same : (question question' : Question P) → question' ≡ question
      → t ≡ answer_question reaches (account pairs possible xs ys (held plan).attendance) (held plan).slot_of stored question
      → t ≡ answer_question reaches (account pairs possible xs ys (held plan').attendance) (held plan').slot_of stored question'
  question_same question question' e h =
      h ∙ ap (λ (p : Plan). answer_question reaches (account pairs possible xs ys (held p).attendance) (held p).slot_of stored question) same
      ∙ ap (λ (q : Question P). answer_question reaches (account pairs possible xs ys (held plan').attendance) (held plan').slot_of stored q) (sym e)

-- an answer for the lists that were lent
pub lists_same : {P : Type 0} (reaches : P → P → Bool) (pairs : Pairs) (possible : ℕ → ℕ → Bool) (here : Sides Bool) (plan stored : List ℕ) (question : Question P) (t : Told) (xs xs' ys ys' : List P) → xs ≡ xs' → ys ≡ ys'
    → t ≡ answer_question reaches (account pairs possible xs ys here) plan stored question → t ≡ answer_question reaches (account pairs possible xs' ys' here) plan stored question
lists_same {P} reaches pairs possible here plan stored question t xs xs' ys ys' a b h =
    h ∙ ap (λ (l : List P). answer_question reaches (account pairs possible l ys here) plan stored question) a
    ∙ ap (λ (l : List P). answer_question reaches (account pairs possible xs' l here) plan stored question) b
