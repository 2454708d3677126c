-- The text of a page, and how numbers are written in it.
use Rattle.std.specs.Prelude.{ℕ, List, [], ◌∷◌, ◌++◌, Ok, Err, vec_items, codes, decimal, Result}
use Rattle.std.specs.List.{flat_map}
use Rattle.page_text.specs.declared.line.PageKind.{PageKind}
use Rattle.page_text.specs.declared.line.PageKind.TheVariants.{Pairs, Table}
use Rattle.page_writer.specs.declared.PageText.{PageText}

-- The bytes of a page's text.
abbrev pub text_of : PageText → List ℕ
text_of t = vec_items t.bytes

-- The bytes of a text that was asked for, or of the refusal in its place.
abbrev pub texts_of : Result PageText PageText → Result (List ℕ) (List ℕ)
texts_of (Ok t) = Ok (text_of t)
texts_of (Err t) = Err (text_of t)

-- A number after a space.
abbrev pub spaced : ℕ → List ℕ
spaced n = 32 ∷ decimal n

-- Numbers with single spaces between them.
abbrev pub number_text : ℕ → List ℕ → List ℕ
number_text n ns = decimal n ++ flat_map spaced ns

-- A line of numbers, with its line feed.
abbrev pub number_line : ℕ → List ℕ → List ℕ
number_line n ns = number_text n ns ++ (10 ∷ [])

-- The header line of a page.
abbrev pub title : PageKind → List ℕ
title Pairs = codes "%%MatrixMarket matrix coordinate pattern general\n"
title Table = codes "%%MatrixMarket matrix array integer general\n"
