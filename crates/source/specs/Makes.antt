-- When a source is made, and when its making is refused.
use Rattle.std.specs.Prelude.{ℕ, Bool, ◌||◌, List, [], ◌∷◌, Some, None, Ok, Err, Option, Result, nat_lt}
use Rattle.refusal.specs.declared.MakeError.{MakeError}
use Rattle.refusal.specs.declared.MakeError.TheVariants.{Refused, NoMemory}
use Rattle.refusal.specs.Refusals.{number_of}
use Rattle.refusal.specs.Limits.{side}

-- The number with which a maker refuses, or none where it made the thing or had no memory for it.
abbrev pub make_refusal_of : {X : Type 0} → Result X MakeError → Option ℕ
make_refusal_of (Ok x) = None
make_refusal_of (Err (Refused e)) = Some (number_of e)
make_refusal_of (Err NoMemory) = None

-- A source with these counts: 12 when one of them is over the most that a side may have.
abbrev pub count_refusals : ℕ → ℕ → List (Bool × ℕ)
count_refusals programmes slots = (nat_lt side programmes || nat_lt side slots, 12) ∷ []
