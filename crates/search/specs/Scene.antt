-- What a search reads: who may take which slot, whom it may move, and the plan as it stands. The searching
-- side's members are called members here, the other side's slots: on the turned source they are slots and programmes.
use Rattle.std.specs.Prelude.{◌≡◌, ℕ, ◌<◌, Bool, false, ◌&&◌, List}
use Rattle.refusal.specs.Tables.{at}

pub record Scene : Type 0 where
  -- the pairs that may be taken
  pub allowed : ℕ → ℕ → Bool
  -- the slots that may be used
  pub slots : List Bool
  -- a is at least as high as b
  pub reaches : ℕ → ℕ → Bool
  -- who holds each slot, 0 for nobody
  pub member_in : List ℕ
  -- where the search starts
  pub root : ℕ
  -- who has a name is passed over
  pub names : List ℕ

abbrev pub scene : (ℕ → ℕ → Bool) → List Bool → (ℕ → ℕ → Bool) → List ℕ → ℕ → List ℕ → Scene
scene allowed slots reaches member_in root names = record { allowed = allowed; slots = slots; reaches = reaches; member_in = member_in; root = root; names = names }

-- Member x may take slot s, and the slot may be used.
abbrev pub usable : Scene → ℕ → ℕ → Bool
usable S x s = S.allowed x s && at false S.slots s

-- Who holds slot s, 0 for nobody.
abbrev pub holder : Scene → ℕ → ℕ
holder S s = at 0 S.member_in s

-- The two tables of a plan agree: a member's slot holds it, and who is held in a slot has that slot.
pub record Agrees (slot_of member_in : List ℕ) : Type 0 where
  pub there : (i s : ℕ) → 0 < i → 0 < s → at 0 slot_of i ≡ s → at 0 member_in s ≡ i
  pub back : (i s : ℕ) → 0 < i → 0 < s → at 0 member_in s ≡ i → at 0 slot_of i ≡ s
