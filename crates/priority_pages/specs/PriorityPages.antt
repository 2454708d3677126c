-- Priorities from a page of a table: the numbers they are made from, and when they are refused.
use Rattle.std.specs.Prelude.{ℕ, zero, suc, ◌+◌, Bool, true, false, cond, List, [], ◌∷◌, ◌++◌, replicate, Some, None, Ok, Err, Option, Result}
use Rattle.refusal.specs.declared.Refusal.{Refusal}
use Rattle.refusal.specs.declared.Refusal.TheVariants as no
use Rattle.refusal.specs.Counting.{all}
use Rattle.refusal.specs.Refusals.{first_refusal}
use Rattle.refusal.specs.Tables.{at}
use Rattle.priority.specs.declared.number.Number.{Number}
use Rattle.priority.specs.declared.house.House.{House}
use Rattle.priority.specs.Kinds.{number_refusals, house_refusals}
use Rattle.page_text.specs.declared.fault.Fault.{Fault}
use Rattle.page_text.specs.declared.fault.Page.{Page}
use Rattle.page_text.specs.Faults.{told}
use Rattle.pages.specs.declared.table_pages.Columns.{Columns}
use Rattle.pages.specs.declared.table_pages.Columns.TheVariants.{One, Two}
use Rattle.pages.specs.Stages.{chain}
use Rattle.pages.specs.TablePages.{Sheet, read_table}

-- The number that a priority of the number kind was made from.
abbrev pub number_of : Number → ℕ
number_of n = n.value

-- The class and the weeks that a priority of the house kind was made from.
abbrev pub house_of : House → ℕ × ℕ
house_of h = (h.class, h.weeks)

-- What stands in the rows 1 to n.
abbrev pub rows_of : {X : Type 0} → (ℕ → X) → ℕ → List X
rows_of row zero = []
rows_of row (suc n) = rows_of row n ++ row (suc n) ∷ []

-- The rows, if each is of the kind, or 11.
abbrev pub all_rows : {X : Type 0} → (X → Bool) → (ℕ → X) → ℕ → Result (List X) Refusal
all_rows test row n = cond (all (λ i. test (row i)) n) (Ok (rows_of row n)) (Err no.ValueRange)

-- The rows of a kind, each by the numbers of its first and its second column: n of the first, then n of the second.
abbrev pub kind_rows : {X : Type 0} → (X → Bool) → (ℕ → ℕ → X) → List ℕ → ℕ → Result (List X) Refusal
kind_rows test row values n = all_rows test (λ i. row (at 0 values i) (at 0 values (n + i))) n

-- Nothing is refused.
abbrev pub accepted : Option ℕ → Bool
accepted None = true
accepted (Some number) = false

-- A number makes a priority of the number kind.
abbrev pub is_number : ℕ → Bool
is_number v = accepted (first_refusal (number_refusals v))

-- The number kind: n numbers in one column.
abbrev pub number_rows : List ℕ → ℕ → Result (List ℕ) Refusal
number_rows = kind_rows is_number (λ a b. a)

-- A class and weeks make a priority of the house kind.
abbrev pub is_house : ℕ × ℕ → Bool
is_house p = accepted (first_refusal (house_refusals p.0 p.1))

-- The house kind: n classes, then n weeks.
abbrev pub house_rows : List ℕ → ℕ → Result (List (ℕ × ℕ)) Refusal
house_rows = kind_rows is_house (λ a b. (a, b))

-- The priorities of a page: the page's own fault, or 11 with line 0 for a number outside the kind.
abbrev pub read_priorities : {X : Type 0} → (List ℕ → ℕ → Result (List X) Refusal) → Columns → ℕ → Page → List ℕ → Result (List X) Fault
read_priorities rows columns room page bytes = chain (read_table columns room page bytes) (λ sheet. told (record { page = page; line = 0 }) (rows sheet.values sheet.rows))

-- The supplied table after that: the values of the page, or all 0 after a refusal.
abbrev pub values_left : {X : Type 0} → ℕ → Result Sheet Fault → Result (List X) Fault → List ℕ
values_left room (Err fault) answer = replicate room 0
values_left room (Ok sheet) (Err fault) = replicate room 0
values_left room (Ok sheet) (Ok list) = sheet.values

-- The priorities of the number kind, and what is left in the table.
abbrev pub read_numbers : ℕ → Page → List ℕ → Result (List ℕ) Fault
read_numbers = read_priorities number_rows One

abbrev pub numbers_left : ℕ → Page → List ℕ → List ℕ
numbers_left room page bytes = values_left room (read_table One room page bytes) (read_numbers room page bytes)

-- The priorities of the house kind, and what is left in the table.
abbrev pub read_houses : ℕ → Page → List ℕ → Result (List (ℕ × ℕ)) Fault
read_houses = read_priorities house_rows Two

abbrev pub houses_left : ℕ → Page → List ℕ → List ℕ
houses_left room page bytes = values_left room (read_table Two room page bytes) (read_houses room page bytes)
