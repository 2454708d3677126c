-- The page of a table: one value a line, column by column.
use Rattle.std.specs.Prelude.{◌≡◌, ℕ, ◌*◌, ◌/◌, ◌≤◌, min, List, [], ◌∷◌, ◌++◌, length, take, Ok}
use Rattle.std.specs.List.{flat_map}
use Rattle.refusal.specs.Limits.{side}
use Rattle.page_text.specs.declared.fault.Page.{Page}
use Rattle.page_text.specs.declared.line.PageKind.TheVariants as kind_of
use Rattle.pages.specs.declared.table_pages.Columns.{Columns}
use Rattle.pages.specs.TablePages.{width, read_table}
use Rattle.pages.specs.PageLaws.{padded}
use Rattle.page_writer.specs.Texts.{title, number_line}

-- The rows that are written: as many as the values fill, and at most twice `side`.
abbrev pub table_rows : Columns → List ℕ → ℕ
table_rows columns values = min (length values / width columns) (2 * side)

-- The values that are written.
abbrev pub table_values : Columns → List ℕ → List ℕ
table_values columns values = take (table_rows columns values * width columns) values

-- The line of a value.
abbrev pub value_line : ℕ → List ℕ
value_line v = number_line v []

-- The page with these sizes and values.
abbrev pub values_page : ℕ → ℕ → List ℕ → List ℕ
values_page rows columns vs = title kind_of.Table ++ (number_line rows (columns ∷ []) ++ flat_map value_line vs)

-- The page of a table.
abbrev pub table_page : Columns → List ℕ → List ℕ
table_page columns values = values_page (table_rows columns values) (width columns) (table_values columns values)

-- A page reads back as the rows and the values written, in any table that has room for them.
abbrev pub TableBack : Columns → List ℕ → List ℕ → Type 0
TableBack columns values text =
    (page : Page) (room : ℕ) → length (table_values columns values) ≤ room
    → read_table columns room page text ≡ Ok (record { rows = table_rows columns values; filled = length (table_values columns values); values = padded room (table_values columns values) })
