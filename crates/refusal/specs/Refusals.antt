-- The refusals by number, and which one a call declines with.
use Rattle.std.specs.Prelude.{ℕ, Bool, cond, List, [], ◌∷◌, Some, None, Ok, Err, Option, Result}
use Rattle.refusal.specs.declared.Refusal.{Refusal}
use Rattle.refusal.specs.declared.Refusal.TheVariants.{PageTooLong, LineTooLong, Header, SizeLine, SizeLimit, EntryLine, EntryRange, PairTwice, EntryCount, UnknownNumber, ValueRange, Mismatch, TableTooShort, AlreadyAbsent, AlreadyPresent, NotAllowed, AlreadyAllowed, NotPossible}

-- The number of each refusal.
abbrev pub number_of : Refusal → ℕ
number_of PageTooLong = 1
number_of LineTooLong = 2
number_of Header = 3
number_of SizeLine = 4
number_of SizeLimit = 5
number_of EntryLine = 6
number_of EntryRange = 7
number_of PairTwice = 8
number_of EntryCount = 9
number_of UnknownNumber = 10
number_of ValueRange = 11
number_of Mismatch = 12
number_of TableTooShort = 13
number_of AlreadyAbsent = 14
number_of AlreadyPresent = 15
number_of NotAllowed = 16
number_of AlreadyAllowed = 17
number_of NotPossible = 18

-- The number with which an answer refuses, or none where the call is accepted.
abbrev pub refusal_of : {X : Type 0} → Result X Refusal → Option ℕ
refusal_of (Ok x) = None
refusal_of (Err e) = Some (number_of e)

-- Of a list of tests with their refusals, in the order of testing: the first whose test holds.
abbrev pub first_refusal : List (Bool × ℕ) → Option ℕ
first_refusal [] = None
first_refusal (t ∷ ts) = cond t.0 (Some t.1) (first_refusal ts)
