-- Pages of a table: sizes rows and columns, then one value a line, column by column.
use Rattle.std.specs.Prelude.{ℕ, ◌+◌, ◌*◌, cond, ◌&&◌, List, length, replicate, Some, None, Ok, Err, Option, Result, ◌==◌, nat_le, slice_index, slice_set}
use Rattle.refusal.specs.Limits.{side}
use Rattle.refusal.specs.declared.Refusal.{Refusal}
use Rattle.refusal.specs.declared.Refusal.TheVariants as no
use Rattle.page_text.specs.declared.fault.Fault.{Fault}
use Rattle.page_text.specs.declared.fault.Page.{Page}
use Rattle.page_text.specs.declared.line.PageKind.TheVariants as kind_of
use Rattle.page_text.specs.Bytes.{words, numbers}
use Rattle.pages.specs.declared.table_pages.Columns.{Columns}
use Rattle.pages.specs.declared.table_pages.Columns.TheVariants.{One, Two}
use Rattle.pages.specs.declared.table_pages.Sheet.{Sheet as CodeSheet}
use Rattle.std.specs.Borrow.{GName}
use Rattle.pages.specs.Stages.{chain, Format, read_page}

-- The number of columns wanted.
abbrev pub width : Columns → ℕ
width One = 1
width Two = 2

-- What is read of a table: its rows, how many values, and the supplied table with these at its front.
pub record Sheet : Type 0 where
  pub rows : ℕ
  pub filled : ℕ
  pub values : List ℕ

-- What a read leaves as it is: the columns wanted, how many places the supplied table has, and whose it is.
pub record Lent : Type 0 where
  pub columns : Columns
  pub room : ℕ
  pub name : GName

abbrev pub sheet_of : CodeSheet → Sheet
sheet_of s = record { rows = s.rows; filled = s.filled; values = s.table.now }

abbrev pub lent_of : CodeSheet → Lent
lent_of s = record { columns = s.columns; room = length s.table.now; name = s.table.ghost_name }

-- Sizes within the limits, or 5: at most twice `side` rows, and the columns wanted. Then 13 where the supplied
-- table, `room` places long, is too short. The answer is the number of values and the rows.
abbrev pub table_limited : ℕ → ℕ → ℕ → ℕ → Result (ℕ × ℕ) Refusal
table_limited want room rows columns =
    cond (nat_le rows (2 * side) && columns == want) (cond (nat_le (rows * columns) room) (Ok (rows * columns, rows)) (Err no.TableTooShort)) (Err no.SizeLimit)

-- The sizes are two whole numbers, or 4.
abbrev pub table_numbers : ℕ → ℕ → Option (List ℕ) → Result (ℕ × ℕ) Refusal
table_numbers want room None = Err no.SizeLine
table_numbers want room (Some ns) = table_limited want room (slice_index ns 0) (slice_index ns 1)

-- The sizes of a size line.
abbrev pub table_sizes : ℕ → ℕ → List ℕ → Result (ℕ × ℕ) Refusal
table_sizes want room line = table_numbers want room (numbers 2 (words line))

-- The sheet with these rows, before its first value.
abbrev pub begun : Sheet → ℕ → Sheet
begun sheet rows = record { rows = rows; filled = 0; values = sheet.values }

-- A size line.
abbrev pub table_sized : ℕ → Sheet → List ℕ → Result (ℕ × Sheet) Refusal
table_sized want sheet line = chain (table_sizes want (length sheet.values) line) (λ z. Ok (z.0, begun sheet z.1))

-- The entry is one whole number, or 6, of 16 bits, or 7.
abbrev pub value_numbers : Option (List ℕ) → Result ℕ Refusal
value_numbers None = Err no.EntryLine
value_numbers (Some ns) = cond (nat_le (slice_index ns 0) 65535) (Ok (slice_index ns 0)) (Err no.EntryRange)

-- The value of an entry line.
abbrev pub value_of : List ℕ → Result ℕ Refusal
value_of line = value_numbers (numbers 1 (words line))

-- The sheet with one value more, in the next place.
abbrev pub value_put : Sheet → ℕ → Sheet
value_put sheet v = record { rows = sheet.rows; filled = sheet.filled + 1; values = slice_set sheet.values sheet.filled v }

-- An entry line.
abbrev pub value_entered : Sheet → List ℕ → Result Sheet Refusal
value_entered sheet line = chain (value_of line) (λ v. Ok (value_put sheet v))

-- The format of tables with these columns, read into a table of `room` places.
abbrev pub table_format : Columns → ℕ → Format Sheet
table_format columns room =
    record {
      kind = kind_of.Table;
      fresh = record { rows = 0; filled = 0; values = replicate room 0 };
      sized = table_sized (width columns);
      entered = value_entered;
    }

-- What a page of a table says, or its fault.
abbrev pub read_table : Columns → ℕ → Page → List ℕ → Result Sheet Fault
read_table columns room = read_page (table_format columns room)

-- What a read leaves in the supplied table: the values and zeros after them, or all 0.
abbrev pub table_left : ℕ → Result Sheet Fault → List ℕ
table_left room (Ok sheet) = sheet.values
table_left room (Err fault) = replicate room 0
