-- How many of a side have a place, by how their priorities compare with another.
use Rattle.std.specs.Prelude.{◌≡◌, ℕ, Bool, not, ◌&&◌, List, length, Some, ◌==◌}
use Rattle.refusal.specs.Counting.{count}
use Rattle.refusal.specs.Tables.{at, item, both}
use Rattle.matching.specs.Board.{Board, Plan, size, ranks, placed, filled}

-- What is told of each priority answers the question about p.
abbrev pub Answers : {P : Type 0} → (P → Bool → Type 0) → (P → P → Bool) → P → Type 0
Answers {P} tells question p = (own : P) (told : Bool) → tells own told → told ≡ question own p

-- Member k has a place, and its priority answers the question about p.
abbrev pub counts_in : {P : Type 0} → (P → P → Bool) → List P → List ℕ → P → ℕ → Bool
counts_in asked priorities places p k = not (at 0 places k == 0) && both asked (item priorities k) (Some p)

-- How many do.
abbrev pub counted_of : {P : Type 0} → (P → P → Bool) → List P → List ℕ → P → ℕ
counted_of asked priorities places p = count (counts_in asked priorities places p) (length priorities)

-- The programmes placed, and the slots filled, whose priority answers the question about p.
abbrev pub counted : {P : Type 0} {reaches : P → P → Bool} → Board reaches → Plan → (P → P → Bool) → P → ℕ × ℕ
counted board plan asked p = (
  count (λ i. placed board plan i && ranks asked board.programmes p i) (size board.programmes),
  count (λ s. filled board plan s && ranks asked board.slots p s) (size board.slots),
)
