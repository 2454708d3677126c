-- What a line asks for.
use Rattle.std.specs.Prelude.{ℕ, Bool, true, false, cond, ◌||◌, List, [], ◌∷◌, Some, None, Ok, Err, Option, Result, ◌==◌, nat_le, slice_index}
use Rattle.refusal.specs.declared.Refusal.{Refusal}
use Rattle.refusal.specs.Tables.{at}
use Rattle.refusal.specs.Refusals.{number_of, first_refusal}
use Rattle.priority.specs.declared.number.Number.{Number}
use Rattle.priority.specs.Kinds.{number_refusals}
use Rattle.plan.specs.declared.Member.TheVariants.{Programme, Slot}
use Rattle.page_text.specs.Bytes.{words, following, numbers}
use Rattle.desk_text.specs.declared.commands.Command.{Command}
use Rattle.desk_text.specs.declared.commands.Command.TheVariants.{Bar, Lift, Rank, Withdraw, Restore, SlotOf, ProgrammeIn, Tally, Digit, Certificate, Judge, HandOver, Reopen, PlanPage, CertificatePage}
use Rattle.desk_text.specs.declared.commands.Unread.{Unread}
use Rattle.desk_text.specs.declared.commands.Unread.TheVariants as unread
use Rattle.desk_text.specs.declared.forms.Form.{Form}
use Rattle.desk_text.specs.declared.forms.Form.TheVariants as form
use Rattle.desk_text.specs.Forms.{form_name, form_numbers, all_forms}

-- What is to be done with a line: nothing, a command, a refusal by its number, or nothing since it is no command.
pub data Said : Type 0 where
  skipped : Said
  call : Command ℕ → Said
  refused : ℕ → Said
  not_understood : Said

-- A command with its priority told as a number.
abbrev pub plain : Command Number → Command ℕ
plain (Bar i s) = Bar i s
plain (Lift i s) = Lift i s
plain (Rank who p) = Rank who p.value
plain (Withdraw who) = Withdraw who
plain (Restore who) = Restore who
plain (SlotOf i) = SlotOf i
plain (ProgrammeIn s) = ProgrammeIn s
plain (Tally p) = Tally p.value
plain (Digit p) = Digit p.value
plain Certificate = Certificate
plain Judge = Judge
plain HandOver = HandOver
plain Reopen = Reopen
plain PlanPage = PlanPage
plain CertificatePage = CertificatePage

-- What a line asks for in the code.
abbrev pub Order : Type 0
Order = Result (Option (Command Number)) Unread

-- What the code's order says.
abbrev pub said : Order → Said
said (Ok None) = skipped
said (Ok (Some command)) = call (plain command)
said (Err (unread.Refused refusal)) = refused (number_of refusal)
said (Err unread.NotUnderstood) = not_understood

-- What is said by a command, or by its refusal.
abbrev pub command_said : Result (Command Number) Refusal → Said
command_said (Ok command) = call (plain command)
command_said (Err refusal) = refused (number_of refusal)

-- A programme or a slot by its number; a number over 255 is read as 0, which nobody has.
abbrev pub named : ℕ → ℕ
named n = cond (nat_le n 255) n 0

-- The refusal, if there is one; else this.
abbrev pub unless_refused : Option ℕ → Said → Said
unless_refused None s = s
unless_refused (Some n) s = refused n

-- A command with the priority p, which is of the number kind: 1 to 255, else 11.
abbrev pub with_priority : ℕ → Command ℕ → Said
with_priority p command = unless_refused (first_refusal (number_refusals p)) (call command)

-- What a form asks for with its numbers, a and then b.
abbrev pub form_order : Form → ℕ → ℕ → Said
form_order form.Bar i s = call (Bar (named i) (named s))
form_order form.Lift i s = call (Lift (named i) (named s))
form_order form.RankProgramme i p = with_priority p (Rank (Programme (named i)) p)
form_order form.RankSlot s p = with_priority p (Rank (Slot (named s)) p)
form_order form.WithdrawProgramme i b = call (Withdraw (Programme (named i)))
form_order form.WithdrawSlot s b = call (Withdraw (Slot (named s)))
form_order form.RestoreProgramme i b = call (Restore (Programme (named i)))
form_order form.RestoreSlot s b = call (Restore (Slot (named s)))
form_order form.SlotOf i b = call (SlotOf (named i))
form_order form.ProgrammeIn s b = call (ProgrammeIn (named s))
form_order form.Tally p b = with_priority p (Tally p)
form_order form.Digit p b = with_priority p (Digit p)
form_order form.Certificate a b = call Certificate
form_order form.Judge a b = call Judge
form_order form.HandOver a b = call HandOver
form_order form.Reopen a b = call Reopen
form_order form.PlanPage a b = call PlanPage
form_order form.CertificatePage a b = call CertificatePage

-- The first two of the numbers, with 0 for one that is not there.
abbrev pub two : Option (List ℕ) → Option (ℕ × ℕ)
two None = None
two (Some ns) = Some (at 0 ns 1, at 0 ns 2)

-- The numbers of a form that k of them end, if they do.
abbrev pub ending : ℕ → Option (List (List ℕ)) → Option (ℕ × ℕ)
ending k None = None
ending k (Some ws) = two (numbers k ws)

-- The numbers of a line of this form: it begins with the form's words, its numbers follow, and nothing else.
abbrev pub form_arguments : Form → List (List ℕ) → Option (ℕ × ℕ)
form_arguments f ws = ending (form_numbers f) (following (words (form_name f)) ws)

-- What the form asks for with its numbers, if the line is of that form; else something else.
abbrev pub or_else : Form → Option (ℕ × ℕ) → Said → Said
or_else f None s = s
or_else f (Some ns) s = form_order f ns.0 ns.1

-- What the first of the forms asks for that the line has.
abbrev pub first_order : List Form → List (List ℕ) → Said
first_order [] ws = not_understood
first_order (f ∷ fs) ws = or_else f (form_arguments f ws) (first_order fs ws)

-- There are no words.
abbrev pub no_words : List (List ℕ) → Bool
no_words [] = true
no_words (w ∷ ws) = false

-- A line is skipped that has no words, or whose first byte is a number sign.
abbrev pub to_skip : List ℕ → Bool
to_skip line = slice_index line 0 == 35 || no_words (words line)

-- What a line asks for.
abbrev pub order_in : List ℕ → Said
order_in line = cond (to_skip line) skipped (first_order all_forms (words line))
