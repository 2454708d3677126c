-- The forms of the commands: the words with which each begins, and how many whole numbers follow.
use Rattle.std.specs.Prelude.{ℕ, List, [], ◌∷◌, codes}
use Rattle.desk_text.specs.declared.forms.Form.{Form}
use Rattle.desk_text.specs.declared.forms.Form.TheVariants.{Bar, Lift, RankProgramme, RankSlot, WithdrawProgramme, WithdrawSlot, RestoreProgramme, RestoreSlot, SlotOf, ProgrammeIn, Tally, Digit, Certificate, Judge, HandOver, Reopen, PlanPage, CertificatePage}
use Rattle.desk_text.specs.declared.forms.Arguments.{Arguments}
use Rattle.desk_text.specs.declared.forms.Arguments.TheVariants as arguments

-- The words of each form.
abbrev pub form_name : Form → List ℕ
form_name Bar = codes "bar"
form_name Lift = codes "lift"
form_name RankProgramme = codes "rank programme"
form_name RankSlot = codes "rank slot"
form_name WithdrawProgramme = codes "withdraw programme"
form_name WithdrawSlot = codes "withdraw slot"
form_name RestoreProgramme = codes "restore programme"
form_name RestoreSlot = codes "restore slot"
form_name SlotOf = codes "slot of"
form_name ProgrammeIn = codes "programme in"
form_name Tally = codes "tally"
form_name Digit = codes "digit"
form_name Certificate = codes "certificate"
form_name Judge = codes "judge"
form_name HandOver = codes "hand over"
form_name Reopen = codes "reopen"
form_name PlanPage = codes "plan page"
form_name CertificatePage = codes "certificate page"

-- How many whole numbers follow.
abbrev pub form_numbers : Form → ℕ
form_numbers Bar = 2
form_numbers Lift = 2
form_numbers RankProgramme = 2
form_numbers RankSlot = 2
form_numbers WithdrawProgramme = 1
form_numbers WithdrawSlot = 1
form_numbers RestoreProgramme = 1
form_numbers RestoreSlot = 1
form_numbers SlotOf = 1
form_numbers ProgrammeIn = 1
form_numbers Tally = 1
form_numbers Digit = 1
form_numbers Certificate = 0
form_numbers Judge = 0
form_numbers HandOver = 0
form_numbers Reopen = 0
form_numbers PlanPage = 0
form_numbers CertificatePage = 0

-- The code's count of them.
abbrev pub count_of : Arguments → ℕ
count_of arguments.None = 0
count_of arguments.One = 1
count_of arguments.Two = 2

-- All forms.
abbrev pub all_forms : List Form
all_forms =
    Bar ∷ Lift ∷ RankProgramme ∷ RankSlot ∷ WithdrawProgramme ∷ WithdrawSlot ∷ RestoreProgramme ∷ RestoreSlot ∷ SlotOf ∷ ProgrammeIn
    ∷ Tally ∷ Digit ∷ Certificate ∷ Judge ∷ HandOver ∷ Reopen ∷ PlanPage ∷ CertificatePage ∷ []
