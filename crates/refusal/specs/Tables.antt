-- Tables that are read by number, from 1.
use Rattle.std.specs.Prelude.{ℕ, zero, suc, Bool, false, List, Some, None, Option, slice_index_or, slice_set}
use Rattle.std.specs.List.{slice_get}

-- What stands under a number: the default under 0 and past the end.
abbrev pub at : {X : Type 0} → X → List X → ℕ → X
at d xs zero = d
at d xs (suc k) = slice_index_or xs k d

-- The table with x under a number: unchanged under 0 and past the end.
abbrev pub put : {X : Type 0} → List X → ℕ → X → List X
put xs zero x = xs
put xs (suc k) x = slice_set xs k x

-- What stands under a number, or none under 0 and past the end.
abbrev pub item : {X : Type 0} → List X → ℕ → Option X
item xs zero = None
item xs (suc k) = slice_get xs k

-- Both are there, and the question holds of them.
abbrev pub both : {X : Type 0} → (X → X → Bool) → Option X → Option X → Bool
both f None y = false
both f (Some x) None = false
both f (Some x) (Some y) = f x y

-- The question holds of what stands under a and what stands under b.
abbrev pub holds_at : {X : Type 0} → (X → X → Bool) → List X → ℕ → ℕ → Bool
holds_at f xs a b = both f (item xs a) (item xs b)
