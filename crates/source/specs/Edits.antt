-- When bar and lift refuse.
use Rattle.std.specs.Prelude.{ℕ, Bool, not, List, [], ◌∷◌}
use Rattle.source.specs.Pairs.{Pairs, inside, holds}

-- Bar: 10 when a number is 0 or beyond its count, then 16 when the pair is not allowed.
abbrev pub bar_refusals : Pairs → ℕ → ℕ → List (Bool × ℕ)
bar_refusals p i s = (not (inside p i s), 10) ∷ (not (holds p i s), 16) ∷ []

-- Lift: 10 as above, then 17 when the pair is allowed already, then 18 when it is not possible.
abbrev pub lift_refusals : Pairs → (ℕ → ℕ → Bool) → ℕ → ℕ → List (Bool × ℕ)
lift_refusals p possible i s = (not (inside p i s), 10) ∷ (holds p i s, 17) ∷ (not (possible i s), 18) ∷ []
