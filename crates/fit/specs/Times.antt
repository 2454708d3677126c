-- Lengths and times, in minutes: their ranges, and which starts are late.
use Rattle.std.specs.Prelude.{ℕ, Bool, not, ◌&&◌, List, [], ◌∷◌, nat_le, nat_lt}

-- The minutes of a day.
abbrev pub day : ℕ
day = 1440

-- A start, in minutes after midnight, that lies in late hours.
abbrev pub late_start : ℕ → Bool
late_start start = nat_le 1260 start

-- A length in range: 1 to 1,440 minutes.
abbrev pub length_in_range : ℕ → Bool
length_in_range length = nat_le 1 length && nat_le length day

-- A programme: 11 when its length is out of range, or its late mark neither 0 nor 1.
abbrev pub programme_refusals : ℕ → ℕ → List (Bool × ℕ)
programme_refusals length late-mark = (not (length_in_range length && nat_le late-mark 1), 11) ∷ []

-- A slot: 11 when its start is not 0 to 1,439, or its length is out of range.
abbrev pub slot_refusals : ℕ → ℕ → List (Bool × ℕ)
slot_refusals start length = (not (nat_lt start day && length_in_range length), 11) ∷ []
