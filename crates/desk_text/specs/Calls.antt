-- The desk's call for a command.
use Rattle.std.specs.Prelude.{◌≡◌, ℕ, replicate, vec_items}
use Rattle.std.specs.Global.{Vec}
use Rattle.priority.specs.declared.number.Number.{Number}
use Rattle.desk.specs.declared.calls.Call.{Call}
use Rattle.desk.specs.declared.calls.Call.TheVariants.{Edit, Ask, Write, HandOver, Reopen}
use Rattle.filing.specs.declared.Wanted.{Wanted}
use Rattle.filing.specs.declared.Wanted.TheVariants.{Plan, Certificate}
use Rattle.page_writer.specs.declared.PageText.{PageText}
use Rattle.desk.specs.declared.calls.Question.TheVariants as question
use Rattle.desk.specs.declared.edits.Edit.TheVariants.{Rank, Withdraw, Restore}
use Rattle.desk.specs.declared.edits.OpenEdit.{OpenEdit}
use Rattle.desk.specs.declared.edits.OpenEdit.TheVariants.{Plain, Bar, Lift}
use Rattle.desk_text.specs.declared.commands.Command.{Command}
use Rattle.desk_text.specs.declared.commands.Command.TheVariants as command

-- A page is asked for with some text that has room for it.
abbrev pub PageAsked : {S : Type 0} → Wanted → Call S Number (OpenEdit Number) → Type 0
PageAsked wanted call = (text : PageText) × (call ≡ Write wanted text)

-- What is asked of the desk for a command, with so many places for a certificate: each entry of its table is 0 at first.
abbrev pub Asked : {S : Type 0} → ℕ → Command Number → Call S Number (OpenEdit Number) → Type 0
Asked places (command.Bar i s) call = call ≡ Edit (Bar i s)
Asked places (command.Lift i s) call = call ≡ Edit (Lift i s)
Asked places (command.Rank who p) call = call ≡ Edit (Plain (Rank who p))
Asked places (command.Withdraw who) call = call ≡ Edit (Plain (Withdraw who))
Asked places (command.Restore who) call = call ≡ Edit (Plain (Restore who))
Asked places (command.SlotOf i) call = call ≡ Ask (question.SlotOf i)
Asked places (command.ProgrammeIn s) call = call ≡ Ask (question.ProgrammeIn s)
Asked places (command.Tally p) call = call ≡ Ask (question.Tally p)
Asked places (command.Digit p) call = call ≡ Ask (question.Digit p)
Asked places command.Certificate call = (table : Vec ℕ) × (call ≡ Ask (question.Certificate table)) × (vec_items table ≡ replicate places 0)
Asked places command.Judge call = call ≡ Ask question.JudgeStored
Asked places command.HandOver call = call ≡ HandOver
Asked places command.Reopen call = call ≡ Reopen
Asked places command.PlanPage call = PageAsked Plan call
Asked places command.CertificatePage call = PageAsked Certificate call
