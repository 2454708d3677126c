-- The weeks of the cases, written as a station member would: priorities, pairs and entries, one after the other.
-- Behind a value, each `tt` stands for a bound that its numbers keep.
use Rattle.std.specs.Prelude.{ℕ, Bool, true, T, List, [], ◌∷◌, length, nat_le, nat_lt}
use Rattle.std.proofs.Common.{lit≤, lit<}
use Rattle.priority.specs.declared.number.Number.{Number}
use Rattle.priority.specs.declared.house.House.{House}
use Rattle.priority.specs.Kinds.{number_reaches, house_reaches}
use Rattle.fit.specs.declared.programmes.Programme.{Programme}
use Rattle.fit.specs.declared.slots.Slot.{Slot}
use Rattle.fit.specs.Times.{day}
use Rattle.fit.specs.Fitting.{fitting}
use Rattle.source.specs.Pairs.{Pairs}
use Rattle.matching.specs.Board.{Best, digit, tally}
use Rattle.matching.specs.Check.{lawful, passes}
use Rattle.matching.specs.Lists.{certificate_of}
use Rattle.pages.specs.PageLaws.{listed, listed_pairs}
use Rattle.desk.specs.declared.edits.OpenEdit.TheVariants.{Bar, Lift}
use Rattle.desk.specs.Edits.{open_entered}
use Rattle.desk.specs.Ledger.{Ledger, board, loaded}

-- ---- values
-- A priority of the number kind, and the question of that kind.
abbrev pub number : (value : ℕ) → T (nat_le 1 value) → Number
number value in-range = record { value = value; ranged = lit≤ in-range }

abbrev pub by_number : Number → Number → Bool
by_number a b = number_reaches a.value b.value

-- A priority of the house kind, a class and the weeks waited, and the question of that kind.
abbrev pub house : (class weeks : ℕ) → T (nat_le class 3) → T (nat_le weeks 520) → House
house class weeks class-in-range weeks-in-range = record {
  class = class;
  weeks = weeks;
  class_ranged = lit≤ class-in-range;
  weeks_ranged = lit≤ weeks-in-range;
}

abbrev pub by_house : House → House → Bool
by_house a b = house_reaches a.class a.weeks b.class b.weeks

-- A programme of that many minutes, for late hours only.
abbrev pub late_programme : (minutes : ℕ) → T (nat_le 1 minutes) → T (nat_le minutes day) → Programme
late_programme minutes some at-most-a-day = record { length = minutes; late = true; range = (lit≤ some, lit≤ at-most-a-day) }

-- A slot that starts so many minutes after midnight, and is so long.
abbrev pub slot : (start minutes : ℕ) → T (nat_lt start day) → T (nat_le 1 minutes) → T (nat_le minutes day) → Slot
slot start minutes in-the-day some at-most-a-day = record { start = start; length = minutes; range = (lit< in-the-day, lit≤ some, lit≤ at-most-a-day) }

-- ---- what is said of a week of the number kind, by its ledger
-- The plan of these pairs is lawful.
abbrev pub is_lawful : Ledger Number → List (ℕ × ℕ) → Bool
is_lawful l plan = lawful (board by_number l) (listed plan)

-- Its score digit at p, and its tally at p.
abbrev pub digit_at : Ledger Number → List (ℕ × ℕ) → Number → ℕ
digit_at l plan p = digit (board by_number l) (listed plan) p

abbrev pub tally_at : Ledger Number → List (ℕ × ℕ) → Number → ℕ × ℕ
tally_at l plan p = tally (board by_number l) (listed plan) p

-- It passes with the certificate of these entries: first one a programme, then one a slot.
abbrev pub passes_with : Ledger Number → List (ℕ × ℕ) → List ℕ → Bool
passes_with l plan entries = passes (board by_number l) (listed plan) (certificate_of (length l.programmes) entries)

-- It is best.
abbrev pub IsBest : Ledger Number → List (ℕ × ℕ) → Type 0
IsBest l plan = Best (board by_number l) (listed plan)

-- ---- the week of docs/CERTIFICATE.md
-- Three programmes of priorities 3, 1 and 2, and two slots of priority 1. Everyone is present, and every pair can be lifted.
abbrev pub week : Ledger Number
week =
    loaded (listed_pairs 3 2 ((1, 1) ∷ (2, 1) ∷ (2, 2) ∷ (3, 2) ∷ [])) (λ i s. true)
    (number 3 tt ∷ number 1 tt ∷ number 2 tt ∷ [])
    (number 1 tt ∷ number 1 tt ∷ [])

-- Its plan, and the certificate that proves it best.
abbrev pub its_plan : List (ℕ × ℕ)
its_plan = (2, 1) ∷ (3, 2) ∷ []

abbrev pub its_certificate : List ℕ
its_certificate = 1 ∷ 1 ∷ 1 ∷ 0 ∷ 0 ∷ []

-- Another plan, with as many pairs: it leaves out programme 3, which is higher than programme 1.
abbrev pub other_plan : List (ℕ × ℕ)
other_plan = (1, 1) ∷ (2, 2) ∷ []

-- The week after programme 2 is barred from slot 1, and after the bar is lifted again.
abbrev pub barred_week : Ledger Number
barred_week = open_entered (Bar 2 1) week

abbrev pub lifted_week : Ledger Number
lifted_week = open_entered (Lift 2 1) barred_week

-- ---- one programme for two slots
-- A programme of priority 1 that may run in both of two slots, of priorities 9 and 4.
abbrev pub two_slots : Ledger Number
two_slots = loaded (listed_pairs 1 2 ((1, 1) ∷ (1, 2) ∷ [])) (λ i s. true) (number 1 tt ∷ []) (number 9 tt ∷ number 4 tt ∷ [])

-- ---- late hours
-- A programme of 60 minutes for late hours only, and two slots of 60 minutes: one starts at 1,259, the other at 1,260.
abbrev pub late_pairs : Pairs
late_pairs = fitting (late_programme 60 tt tt ∷ []) (slot 1259 60 tt tt tt ∷ slot 1260 60 tt tt tt ∷ [])
