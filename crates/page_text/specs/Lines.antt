-- The lines of a page, and what one line is by itself.
use Rattle.std.specs.Prelude.{ℕ, Bool, true, false, cond, ◌&&◌, List, [], ◌∷◌, map, codes, ◌==◌, slice_index}
use Rattle.std.specs.List.{slice_split}
use Rattle.std.specs.Char.{to_ascii_lowercase}
use Rattle.std.specs.Str.{bytes_eq}
use Rattle.page_text.specs.declared.line.LineKind.{LineKind}
use Rattle.page_text.specs.declared.line.LineKind.TheVariants.{Blank, Comment, Text}
use Rattle.page_text.specs.declared.line.PageKind.{PageKind}
use Rattle.page_text.specs.declared.line.PageKind.TheVariants.{Pairs, Table}
use Rattle.page_text.specs.Bytes.{feed, words}

-- What follows the last line feed is a line only if it is not empty.
abbrev pub ended : List (List ℕ) → List (List ℕ)
ended [] = []
ended ([] ∷ []) = []
ended ((b ∷ w) ∷ []) = (b ∷ w) ∷ []
ended (w ∷ v ∷ ws) = w ∷ ended (v ∷ ws)

-- The lines of a page, without their line feeds.
abbrev pub lines : List ℕ → List (List ℕ)
lines page = ended (slice_split feed page)

-- Blank where there are no words.
abbrev pub by_words : List (List ℕ) → LineKind
by_words [] = Blank
by_words (w ∷ ws) = Text

-- A line is a comment when its first byte is a percent sign, and else blank or text.
abbrev pub line_kind : List ℕ → LineKind
line_kind line = cond (slice_index line 0 == 37) Comment (by_words (words line))

-- The words are those wanted, in either case of letters.
abbrev pub alike : List (List ℕ) → List (List ℕ) → Bool
alike [] [] = true
alike [] (v ∷ vs) = false
alike (w ∷ ws) [] = false
alike (w ∷ ws) (v ∷ vs) = bytes_eq (map to_ascii_lowercase w) (map to_ascii_lowercase v) && alike ws vs

-- The words of a header after the first.
abbrev pub header_words : PageKind → List ℕ
header_words Pairs = codes "matrix coordinate pattern general"
header_words Table = codes "matrix array integer general"

-- The first word is `%%MatrixMarket` as it stands, and the others are those wanted.
abbrev pub titled : List (List ℕ) → List (List ℕ) → Bool
titled want [] = false
titled want (w ∷ ws) = bytes_eq w (codes "%%MatrixMarket") && alike ws want

-- The header of a page: it begins at the line's first byte.
abbrev pub header : PageKind → List ℕ → Bool
header kind line = slice_index line 0 == 37 && titled (words (header_words kind)) (words line)
