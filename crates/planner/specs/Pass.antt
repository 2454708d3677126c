-- One side's pass: what it reads, what it keeps true, what one search does, and how it ends.
-- The side's own are called members here, the other side's slots. Inner notions: no public promise rests on them.
use Rattle.std.specs.Prelude.{◌≡◌, ℕ, ◌<◌, Bool, true, false}

-- Who may be moved, which slots may be used, which pairs may be taken, and who is at least as high as whom.
pub record Stage : Type 0 where
  pub members : ℕ → Bool
  pub slots : ℕ → Bool
  pub allowed : ℕ → ℕ → Bool
  pub reaches : ℕ → ℕ → Bool

-- The sides exchanged, with the order of the slots.
abbrev pub turn_stage : Stage → (ℕ → ℕ → Bool) → Stage
turn_stage S reaches = record { members = S.slots; slots = S.members; allowed = λ s x. S.allowed x s; reaches = reaches }

-- What is to hold of a member x that names w.
pub record Kept (S : Stage) (slot_of member_in names : ℕ → ℕ) (x w : ℕ) : Type 0 where
  -- both may be moved, w has no slot, and x is at least as high
  pub free : S.members x ≡ true
  pub root_free : S.members w ≡ true
  pub root_out : slot_of w ≡ 0
  pub high : S.reaches x w ≡ true
  -- each slot that x may take is held by one who names one at least as high as w
  pub blocked : (s : ℕ) → S.slots s ≡ true → S.allowed x s ≡ true → (0 < member_in s) × (0 < names (member_in s)) × (S.reaches (names (member_in s)) w ≡ true)

-- What a pass keeps true.
pub record State (S : Stage) (slot_of member_in names : ℕ → ℕ) (done : ℕ → Bool) : Type 0 where
  -- who names someone keeps the rules
  pub named : (x : ℕ) → 0 < names x → Kept S slot_of member_in names x (names x)
  -- who is named is done, and so is who names someone and has no slot
  pub named_done : (x : ℕ) → 0 < names x → done (names x) ≡ true
  pub out_done : (x : ℕ) → 0 < names x → slot_of x ≡ 0 → done x ≡ true
  -- who is done and has no slot names itself
  pub itself : (x : ℕ) → S.members x ≡ true → slot_of x ≡ 0 → done x ≡ true → names x ≡ x
  -- who is done is at least as high as those who wait
  pub order : (x y : ℕ) → done x ≡ true → S.members y ≡ true → slot_of y ≡ 0 → done y ≡ false → S.reaches x y ≡ true

-- The next root.
pub record Chosen (S : Stage) (slot_of : ℕ → ℕ) (done : ℕ → Bool) (root : ℕ) : Type 0 where
  pub free : S.members root ≡ true
  pub out : slot_of root ≡ 0
  pub new : done root ≡ false
  pub highest : (y : ℕ) → S.members y ≡ true → slot_of y ≡ 0 → done y ≡ false → S.reaches root y ≡ true

-- Those reached that have no name yet name the root.
pub record Renamed (names names' : ℕ → ℕ) (root : ℕ) (reached : ℕ → Bool) : Type 0 where
  pub before : (x : ℕ) → 0 < names x → names' x ≡ names x
  pub now : (x : ℕ) → names x ≡ 0 → reached x ≡ true → names' x ≡ root
  pub never : (x : ℕ) → names x ≡ 0 → reached x ≡ false → names' x ≡ 0

-- How a pass ends.
pub record Settled (S : Stage) (slot_of member_in names : ℕ → ℕ) : Type 0 where
  pub itself : (x : ℕ) → S.members x ≡ true → slot_of x ≡ 0 → names x ≡ x
  pub named : (x : ℕ) → 0 < names x → Kept S slot_of member_in names x (names x)
