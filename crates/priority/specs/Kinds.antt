-- The station's two kinds of priority: when one value is at least as high as another, and which numbers make none.
use Rattle.std.specs.Prelude.{ℕ, Bool, not, ◌&&◌, ◌||◌, List, [], ◌∷◌, ◌==◌, nat_le, nat_lt}

-- The number kind: the smaller number is higher.
abbrev pub number_reaches : ℕ → ℕ → Bool
number_reaches a b = nat_le a b

-- A number outside 1 to 255 gives 11.
abbrev pub number_refusals : ℕ → List (Bool × ℕ)
number_refusals value = (not (nat_le 1 value && nat_le value 255), 11) ∷ []

-- The house kind: the lower class is higher, and within a class the longer wait.
abbrev pub house_reaches : ℕ → ℕ → ℕ → ℕ → Bool
house_reaches class weeks other-class other-weeks = nat_lt class other-class || (class == other-class && nat_le other-weeks weeks)

-- A class outside 0 to 3, or a wait outside 0 to 520 weeks, gives 11.
abbrev pub house_refusals : ℕ → ℕ → List (Bool × ℕ)
house_refusals class weeks = (not (nat_le class 3 && nat_le weeks 520), 11) ∷ []
