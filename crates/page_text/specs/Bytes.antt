-- The words of a line, and the whole numbers that words write.
use Rattle.std.specs.Prelude.{ℕ, zero, suc, ◌+◌, ◌-◌, ◌*◌, Bool, cond, ◌&&◌, ◌||◌, List, [], ◌∷◌, ◌++◌, length, Some, None, Option, ◌==◌, nat_le}
use Rattle.std.specs.List.{slice_split}
use Rattle.std.specs.Str.{bytes_eq}

-- The blanks: tab, carriage return and space.
abbrev pub blank : ℕ → Bool
blank b = (b == 9 || b == 13) || b == 32

-- The line feed.
abbrev pub feed : ℕ → Bool
feed b = b == 10

-- The pieces that are not empty.
abbrev pub full : List (List ℕ) → List (List ℕ)
full [] = []
full ([] ∷ ws) = full ws
full ((b ∷ w) ∷ ws) = (b ∷ w) ∷ full ws

-- The words of a line: what stands between blanks.
abbrev pub words : List ℕ → List (List ℕ)
words line = full (slice_split blank line)

-- What follows the words wanted, if the words of a line begin with them.
abbrev pub following : List (List ℕ) → List (List ℕ) → Option (List (List ℕ))
following [] ws = Some ws
following (v ∷ vs) [] = None
following (v ∷ vs) (w ∷ ws) = cond (bytes_eq w v) (following vs ws) None

-- The digits 0 to 9.
abbrev pub digit : ℕ → Bool
digit c = nat_le 48 c && nat_le c 57

-- The number that digits write after those of n, or none where another byte stands among them.
abbrev pub digits : ℕ → List ℕ → Option ℕ
digits n [] = Some n
digits n (c ∷ cs) = cond (digit c) (digits (n * 10 + (c - 48)) cs) None

-- A whole number is a word of 1 to 9 digits.
abbrev pub whole : List ℕ → Option ℕ
whole word = cond (nat_le 1 (length word) && nat_le (length word) 9) (digits 0 word) None

-- Numbers in front of those found, if there are any.
abbrev pub ahead : List ℕ → Option (List ℕ) → Option (List ℕ)
ahead ns None = None
ahead ns (Some ms) = Some (ns ++ ms)

-- A number in front of those found, if there is one.
abbrev pub plus : Option ℕ → Option (List ℕ) → Option (List ℕ)
plus None found = None
plus (Some n) found = ahead (n ∷ []) found

-- The numbers that k words write: none unless there are k words, each a whole number.
abbrev pub numbers : ℕ → List (List ℕ) → Option (List ℕ)
numbers zero [] = Some []
numbers zero (w ∷ ws) = None
numbers (suc k) [] = None
numbers (suc k) (w ∷ ws) = plus (whole w) (numbers k ws)

-- The numbers found, if there are any and no word follows them.
abbrev pub alone : Option (List ℕ) → List (List ℕ) → Option (List ℕ)
alone None ws = None
alone (Some ns) [] = Some ns
alone (Some ns) (w ∷ ws) = None
