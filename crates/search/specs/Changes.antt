-- How much a plan changed, and what the flip of a path changes.
use Rattle.std.specs.Prelude.{◌≡◌, ℕ, zero, suc, ◌+◌, cond, List, [], ◌∷◌, length, ◌==◌}
use Rattle.refusal.specs.Tables.{at}
use Rattle.search.specs.declared.queue.Reached.{Reached}
use Rattle.search.specs.Search.{Kept}
use Rattle.search.specs.Paths.{one, pairs, trail}

-- Of a member whom one plan has in the slot a and another in b, 0 for nowhere: how many pairs are in just one of the two.
abbrev pub gap : ℕ → ℕ → ℕ
gap a b = cond (a == b) 0 (one a + one b)

-- How many pairs of the members up to n are in just one of two plans.
abbrev pub changes : ℕ → List ℕ → List ℕ → ℕ
changes zero slot_of slot_of' = 0
changes (suc n) slot_of slot_of' = changes n slot_of slot_of' + gap (at 0 slot_of (suc n)) (at 0 slot_of' (suc n))

-- The slot that the pairs give to the member x, d if none.
abbrev pub given_slot : List (ℕ × ℕ) → ℕ → ℕ → ℕ
given_slot [] x d = d
given_slot (e ∷ p) x d = cond (e.0 == x) e.1 (given_slot p x d)

-- The slot of the member x after the path p is flipped.
abbrev pub flipped : List ℕ → List ℕ → List (ℕ × ℕ) → ℕ → ℕ
flipped slot_of member_in [] x = at 0 slot_of x
flipped slot_of member_in (e ∷ p) x = given_slot (e ∷ p) x (cond (at 0 member_in e.1 == x) 0 (at 0 slot_of x))

-- The path over the place i of the queue to the slot t was flipped.
pub record Applied (slot_of member_in : List ℕ) (q : List Reached) (i t : ℕ) (slot_of' member_in' : List ℕ) : Type 0 where
  pub kept : Kept slot_of member_in q i t slot_of' member_in'
  -- just the pairs of the path changed
  pub flip : (x : ℕ) → at 0 slot_of' x ≡ flipped slot_of member_in (trail q i t) x
  pub number : changes (length slot_of) slot_of slot_of' ≡ pairs member_in (trail q i t)
