-- The page of a table is read back as the table.
use Rattle.std.proofs.Common.{◌≡◌, ℕ, zero, suc, ◌*◌, ◌≤◌, min, List, [], ◌∷◌, length, get_or, take, refl, arith}
use Rattle.std.specs.List.{AllByRecursion}
use Rattle.std.proofs.lemmas.List.{length-take-le}
use Rattle.refusal.specs.Limits.{side}
use Rattle.page_text.specs.declared.line.PageKind.TheVariants as kind_of
use Rattle.page_text.specs.Limits.{page_limit}
use Rattle.pages.specs.declared.table_pages.Columns.{Columns}
use Rattle.pages.specs.declared.table_pages.Columns.TheVariants.{One, Two}
use Rattle.pages.specs.TablePages.{width}
use Rattle.pages.proofs.TableLaws.{values_law}
use Rattle.page_writer.specs.TablePage.{table_rows, table_values, table_page, TableBack}
use Rattle.page_writer.proofs.Trip.{Written, made}

pub all_small : (xs : List ℕ) → ((i : ℕ) → get_or xs i 0 ≤ 65535) → AllByRecursion (λ v. v ≤ 65535) xs
all_small [] f = tt
all_small (x ∷ xs) f = (f 0, all_small xs (λ i. f (suc i)))

all_take : {X : Type 0} (P : X → Type 0) (n : ℕ) (xs : List X) → AllByRecursion P xs → AllByRecursion P (take n xs)
all_take P zero xs a = tt
all_take P (suc n) [] a = tt
all_take P (suc n) (x ∷ xs) a = (a.0, all_take P n xs a.1)

all_map : {X : Type 0} (P Q : X → Type 0) → ((x : X) → P x → Q x) → (xs : List X) → AllByRecursion P xs → AllByRecursion Q xs
all_map P Q f [] a = tt
all_map P Q f (x ∷ xs) a = (f x a.0, all_map P Q f xs a.1)

-- the rows written are filled
pub rows_fill : (columns : Columns) (values : List ℕ) → table_rows columns values * width columns ≤ length values
rows_fill One values = omega arith
rows_fill Two values = omega arith

width_small : (columns : Columns) → width columns ≤ 2
width_small One = omega arith
width_small Two = omega arith

pub few_values : (columns : Columns) (rows w n : ℕ) → w ≡ width columns → rows ≡ min n (2 * side) → rows * w ≤ 4 * side
few_values One rows w n e h = rw e (omega arith)
few_values Two rows w n e h = rw e (omega arith)

module _ (columns : Columns) (values : List ℕ) (a : AllByRecursion (λ v. v ≤ 65535) values) where
  pub table_back : (text : List ℕ) → text ≡ table_page columns values → length text ≤ page_limit → TableBack columns values text
  table_back text e h page room k =
      let rows = table_rows columns values in
      let vs = table_values columns values in
      let long : length vs ≡ rows * width columns = length-take-le (rows * width columns) values (rows_fill columns values) in
      let small = all_take (λ v. v ≤ 65535) (rows * width columns) values a in
      let lines : AllByRecursion (Written 0 (λ (v : ℕ). v) (λ (v : ℕ). []) (omega arith) (λ v. refl)) vs = all_map (λ v. v ≤ 65535) _ (λ v b. (omega arith, tt)) vs small in
      values_law columns room page text rows vs
      (made 0 (λ (v : ℕ). v) (λ (v : ℕ). []) (omega arith) (λ v. refl) kind_of.Table rows (width columns ∷ []) vs text (omega arith) (omega (arith, width_small columns), tt) (omega arith) lines e h)
      (record { few_rows = omega arith; all = long; fit = omega arith; small = small })
