-- Improving paths: what one is, how many pairs it has, and when it is a shortest one.
use Rattle.std.specs.Prelude.{◌≡◌, ℕ, zero, suc, ◌+◌, ◌<◌, ◌≤◌, Bool, true, false, not, ◌&&◌, ◌||◌, List, [], ◌∷◌, Some, None, Option, ◌==◌, nat_lt}
use Rattle.refusal.specs.Limits.{side}
use Rattle.refusal.specs.Tables.{at}
use Rattle.search.specs.Scene.{Scene, usable, holder}
use Rattle.search.specs.declared.queue.Reached.{Reached}
use Rattle.search.specs.declared.queue.End.{End}
use Rattle.search.specs.Search.{who, via, parent_of, Path, Stuck}

-- The member y is none of those whom the pairs move.
abbrev pub apart : ℕ → List (ℕ × ℕ) → Bool
apart y [] = true
apart y (e ∷ p) = not (e.0 == y) && apart y p

-- A path is told by its new pairs, the last first: each a member and the slot that it takes.
-- Between two new pairs stands the pair of the plan at the slot of the earlier one.
-- `leads S p x`: the pairs p lead from the root to the member x, and to no member twice.
abbrev pub leads : Scene → List (ℕ × ℕ) → ℕ → Bool
leads S [] x = x == S.root
leads S (e ∷ p) x = usable S e.0 e.1 && (holder S e.1 == x && (nat_lt 0 x && (apart x (e ∷ p) && leads S p e.0)))

-- The last slot is unfilled, or its holder y is lower than the root and not on the path.
abbrev pub ends : Scene → ℕ → List (ℕ × ℕ) → Bool
ends S y p = y == 0 || (not (S.reaches y S.root) && apart y p)

-- The pairs are an improving path.
abbrev pub improving : Scene → List (ℕ × ℕ) → Bool
improving S [] = false
improving S (e ∷ p) = usable S e.0 e.1 && (ends S (holder S e.1) (e ∷ p) && leads S p e.0)

-- 1 for a number that is not 0.
abbrev pub one : ℕ → ℕ
one zero = 0
one (suc y) = 1

-- The number of pairs of a path: each new one, and the plan's at its slot if it is filled.
abbrev pub pairs : List ℕ → List (ℕ × ℕ) → ℕ
pairs member_in [] = 0
pairs member_in (e ∷ p) = 1 + one (at 0 member_in e.1) + pairs member_in p

-- The path is an improving one, and none has fewer pairs.
pub record Shortest (S : Scene) (p : List (ℕ × ℕ)) : Type 0 where
  pub path : improving S p ≡ true
  pub least : (o : List (ℕ × ℕ)) → improving S o ≡ true → pairs S.member_in p ≤ pairs S.member_in o

-- There is no improving path.
abbrev pub NoPath : Scene → Type 0
NoPath S = (o : List (ℕ × ℕ)) → improving S o ≡ false

-- Passing over those with a name loses no path: from them only such are reached, at filled slots, and none is lower than the root.
pub record Safe (S : Scene) : Type 0 where
  pub kept : (x s : ℕ) → 0 < at 0 S.names x → usable S x s ≡ true → (0 < holder S s) × (0 < at 0 S.names (holder S s))
  pub high : (x : ℕ) → 0 < at 0 S.names x → S.reaches x S.root ≡ true

-- The new pairs that lead to the place k of the queue, the last first; f bounds their number.
abbrev pub back : ℕ → List Reached → ℕ → List (ℕ × ℕ)
back zero q k = []
back (suc f) q zero = []
back (suc f) q (suc k) = (who q (parent_of q (suc k)), via q (suc k)) ∷ back f q (parent_of q (suc k))

-- The path from the root over the place i of the queue to the slot t.
abbrev pub trail : List Reached → ℕ → ℕ → List (ℕ × ℕ)
trail q i t = (who q i, t) ∷ back i q i

-- A path of that many pairs was found, a shortest one.
pub record Found (S : Scene) (q : List Reached) (i t count : ℕ) : Type 0 where
  pub path : Path S q i t
  pub shortest : Safe S → Shortest S (trail q i t)
  pub number : count ≡ pairs S.member_in (trail q i t)
  pub small : count ≤ side + side + 2

-- The search ran dry, and there is no path.
pub record Dry (S : Scene) (m : List Bool) : Type 0 where
  pub stuck : Stuck S m
  pub none : Safe S → NoPath S

-- What each answer of the search says.
abbrev pub Ended : Scene → List Reached → List Bool → Option End → Type 0
Ended S q m None = Dry S m
Ended S q m (Some e) = Found S q e.from e.slot e.pairs
