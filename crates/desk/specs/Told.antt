-- What a call is answered, as plain values.
use Rattle.std.specs.Prelude.{ℕ, Bool, true, false, List, Some, None, Ok, Err, vec_items, Option, Result}
use Rattle.refusal.specs.declared.Refusal.{Refusal}
use Rattle.refusal.specs.Refusals.{number_of, first_refusal}
use Rattle.page_writer.specs.Texts.{text_of}
use Rattle.desk.specs.declared.calls.Answer.{Answer}
use Rattle.desk.specs.declared.calls.Answer.TheVariants as code
use Rattle.desk.specs.declared.calls.Unserved.{Unserved}
use Rattle.desk.specs.declared.calls.Unserved.TheVariants as unserved

-- The cases of an answer.
pub data Told : Type 0 where
  done : Told
  slot : Option ℕ → Told
  programme : Option ℕ → Told
  digit : ℕ → Told
  tally : ℕ × ℕ → Told
  certificate : List ℕ → Told
  verdict : Bool → Told
  page : List ℕ → Told
  refused : ℕ → Told
  not_offered : Told

-- What a call comes to in the code.
abbrev pub Served : Type 0
Served = Result Answer Unserved

-- What the code's answer says: the number of a refusal, the entries of a table.
abbrev pub told : Served → Told
told (Ok code.Done) = done
told (Ok (code.Slot s)) = slot s
told (Ok (code.Programme i)) = programme i
told (Ok (code.Digit n)) = digit n
told (Ok (code.Tally counts)) = tally counts
told (Ok (code.Certificate table)) = certificate (vec_items table)
told (Ok (code.Verdict passed)) = verdict passed
told (Ok (code.Page text)) = page (text_of text)
told (Err (unserved.Refused e)) = refused (number_of e)
told (Err unserved.NotOffered) = not_offered

-- The refusal, if there is one; else this.
abbrev pub unless_refused : Option ℕ → Told → Told
unless_refused None t = t
unless_refused (Some n) t = refused n

-- The first of the tests that holds refuses; else this is told.
abbrev pub or_refused : List (Bool × ℕ) → Told → Told
or_refused tests t = unless_refused (first_refusal tests) t

-- A load or an edit was accepted.
abbrev pub is_done : Told → Bool
is_done done = true
is_done (slot s) = false
is_done (programme i) = false
is_done (digit n) = false
is_done (tally counts) = false
is_done (certificate entries) = false
is_done (verdict passed) = false
is_done (page text) = false
is_done (refused n) = false
is_done not_offered = false

-- What is told of an edit that was made, or refused.
abbrev pub outcome : Result (Unit {0}) Refusal → Told
outcome (Ok u) = done
outcome (Err e) = refused (number_of e)
