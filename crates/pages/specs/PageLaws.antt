-- What the definitions of a page amount to, in the words of the format.
use Rattle.std.specs.Prelude.{◌≡◌, ℕ, ◌+◌, ◌-◌, ◌*◌, ◌≤◌, Bool, true, false, ◌&&◌, ◌||◌, ◌⊎◌, List, [], ◌∷◌, ◌++◌, map, length, replicate, Some, Ok, Err, Result, ◌==◌}
use Rattle.std.specs.List.{AllByRecursion}
use Rattle.refusal.specs.Limits.{side}
use Rattle.refusal.specs.Counting.{within}
use Rattle.refusal.specs.declared.Refusal.{Refusal}
use Rattle.source.specs.Pairs.{Pairs}
use Rattle.page_text.specs.declared.fault.Fault.{Fault}
use Rattle.page_text.specs.declared.fault.Page.{Page}
use Rattle.page_text.specs.declared.line.LineKind.TheVariants.{Blank, Comment, Text}
use Rattle.page_text.specs.declared.line.PageKind.{PageKind}
use Rattle.page_text.specs.declared.line.PageKind.TheVariants as kind_of
use Rattle.page_text.specs.Limits.{page_limit, line_limit}
use Rattle.page_text.specs.Bytes.{words, numbers}
use Rattle.page_text.specs.Lines.{lines, line_kind, header}
use Rattle.pages.specs.declared.table_pages.Columns.{Columns}
use Rattle.pages.specs.Stages.{chain, Reading, starting, Format, step}
use Rattle.pages.specs.TablePages.{width}

-- A line that is not too long.
abbrev pub Short : List ℕ → Type 0
Short line = length line ≤ line_limit

-- A line that is passed over before the size line: blank, or a comment.
abbrev pub Passed : List ℕ → Type 0
Passed line = Short line × ((line_kind line ≡ Blank) ⊎ (line_kind line ≡ Comment))

-- Lines that say entries of k numbers each, one entry a line, with blank lines among them.
pub data Says (k : ℕ) : List (List ℕ) → List (List ℕ) → Type 0 where
  none : Says k [] []
  skip : {l : List ℕ} {ls es : List (List ℕ)} → Short l → line_kind l ≡ Blank → Says k ls es → Says k (l ∷ ls) es
  entry : {l e : List ℕ} {ls es : List (List ℕ)} → Short l → line_kind l ≡ Text → numbers k (words l) ≡ Some e → Says k ls es → Says k (l ∷ ls) (e ∷ es)

-- A page made of a header, comments and blank lines, a size line, and lines that say entries of k numbers each.
pub record MadeOf (kind : PageKind) (k : ℕ) (bytes : List ℕ) (sizes : List ℕ) (entries : List (List ℕ)) : Type 0 where
  pub short : length bytes ≤ page_limit
  pub top : List ℕ
  pub notes : List (List ℕ)
  pub size : List ℕ
  pub rest : List (List ℕ)
  pub is : lines bytes ≡ top ∷ (notes ++ size ∷ rest)
  pub headed : Short top × (header kind top ≡ true)
  pub noted : AllByRecursion Passed notes
  pub sized : Short size × (line_kind size ≡ Text) × (numbers (length sizes) (words size) ≡ Some sizes)
  pub said : Says k rest entries

-- Whether the pair (i, s) is in a list.
abbrev pub listed : List (ℕ × ℕ) → ℕ → ℕ → Bool
listed [] i s = false
listed (p ∷ ps) i s = (p.0 == i && p.1 == s) || listed ps i s

-- No pair is in the list twice.
abbrev pub Apart : List (ℕ × ℕ) → Type 0
Apart [] = Unit {0}
Apart (p ∷ ps) = (listed ps p.0 p.1 ≡ false) × Apart ps

-- Pairs that a page can say: within the sizes, each once.
pub record PairsFit (rows columns : ℕ) (ps : List (ℕ × ℕ)) : Type 0 where
  pub few_rows : rows ≤ side
  pub few_columns : columns ≤ side
  pub few : length ps ≤ rows * columns
  pub inner : AllByRecursion (λ p. (within rows p.0 && within columns p.1) ≡ true) ps
  pub apart : Apart ps

-- Exactly the pairs of a list.
abbrev pub listed_pairs : ℕ → ℕ → List (ℕ × ℕ) → Pairs
listed_pairs rows columns ps = record { programmes = rows; slots = columns; allowed = listed ps }

-- A page made of pairs that fit is read as exactly those pairs.
abbrev pub ReadsPairs : List ℕ → Result Pairs Fault → Type 0
ReadsPairs bytes answer =
    (rows columns : ℕ) (ps : List (ℕ × ℕ)) → MadeOf kind_of.Pairs 2 bytes (rows ∷ columns ∷ length ps ∷ []) (map (λ p. p.0 ∷ p.1 ∷ []) ps) → PairsFit rows columns ps → answer ≡ Ok (listed_pairs rows columns ps)

-- Values that a page can say, and for which the supplied table has room.
pub record ValuesFit (rows columns room : ℕ) (vs : List ℕ) : Type 0 where
  pub few_rows : rows ≤ 2 * side
  pub all : length vs ≡ rows * columns
  pub fit : rows * columns ≤ room
  pub small : AllByRecursion (λ v. v ≤ 65535) vs

-- Values at the front of a table, and zeros after them.
abbrev pub padded : ℕ → List ℕ → List ℕ
padded room vs = vs ++ replicate (room - length vs) 0

-- A page made of values that fit is read as exactly those values, with zeros after them.
abbrev pub ReadsTable : Columns → ℕ → List ℕ → Result ℕ Fault → List ℕ → Type 0
ReadsTable columns room bytes answer table =
    (rows : ℕ) (vs : List ℕ) → MadeOf kind_of.Table 1 bytes (rows ∷ width columns ∷ []) (map (λ v. v ∷ []) vs) → ValuesFit rows (width columns) room vs → (answer ≡ Ok rows) × (table ≡ padded room vs)

-- Where the reading stands after some lines, or the first refusal among them.
abbrev pub runs : {X : Type 0} → Format X → Reading × X → List (List ℕ) → Result (Reading × X) Refusal
runs format s [] = Ok s
runs format s (l ∷ ls) = chain (step format s l) (λ t. runs format t ls)

-- The first faulty line decides: its refusal, its number and the page, whatever follows it.
abbrev pub FirstFault : {X Y : Type 0} → Format X → Page → List ℕ → Result Y Fault → Type 0
FirstFault {X} format page bytes answer =
    (before after : List (List ℕ)) (line : List ℕ) (s : Reading × X) (w : Refusal) → length bytes ≤ page_limit → lines bytes ≡ before ++ line ∷ after → runs format (starting, format.fresh) before ≡ Ok s → step format s line ≡ Err w → answer ≡ Err (record { refusal = w; line = length before + 1; page = page })
