-- The lines that a program writes in place of a page: a verdict, or a refusal.
use Rattle.std.specs.Prelude.{ℕ, Bool, cond, List, ◌++◌, Ok, Err, codes, decimal, Result}
use Rattle.refusal.specs.Refusals.{number_of}
use Rattle.page_text.specs.Faults.{file_name}
use Rattle.page_writer.specs.declared.answer_line.Declined.{Declined}
use Rattle.page_writer.specs.declared.answer_line.Declined.TheVariants.{Page, Week}

-- The line of a refusal: its number, the page and the line.
abbrev pub line_at : ℕ → List ℕ → ℕ → List ℕ
line_at number page line = codes "refused " ++ (decimal number ++ (codes " " ++ (page ++ (codes " " ++ (decimal line ++ codes "\n")))))

-- The page is told by its file's name; `week 0` stands for a refusal of no page.
abbrev pub refusal_line : Declined → List ℕ
refusal_line (Page fault) = line_at (number_of fault.refusal) (file_name fault.page) fault.line
refusal_line (Week refusal) = line_at (number_of refusal) (codes "week") 0

-- A verdict.
abbrev pub verdict_line : Bool → List ℕ
verdict_line accepted = cond accepted (codes "accepted\n") (codes "rejected\n")

-- What a program was told: a verdict, or why it refuses.
abbrev pub answer_line : Result Bool Declined → List ℕ
answer_line (Ok accepted) = verdict_line accepted
answer_line (Err declined) = refusal_line declined

-- The same, with the line of a refusal as the error.
abbrev pub answer_lines : Result Bool Declined → Result (List ℕ) (List ℕ)
answer_lines (Ok accepted) = Ok (verdict_line accepted)
answer_lines (Err declined) = Err (refusal_line declined)
