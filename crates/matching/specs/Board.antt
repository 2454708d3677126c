-- A station's week: programmes and slots, who is present, how high each ranks, and who may run where.
-- What a plan is, what it achieves, and when no plan does better. Numbers start at 1.
use Rattle.std.specs.Prelude.{◌≡◌, ℕ, ◌+◌, ◌≤◌, Bool, true, not, ◌&&◌, List, length, Some, Option}
use Rattle.refusal.specs.Counting.{count, any, within, first_from}
use Rattle.refusal.specs.Tables.{item, both}
use Rattle.priority.specs.Order.{level}

-- A side of the week, the programmes or the slots: the priority of each, from number 1 on, and who is present.
pub record Side (P : Type 0) : Type 0 where
  pub priorities : List P
  pub present : ℕ → Bool

-- How many the side has: each has one priority.
abbrev pub size : {P : Type 0} → Side P → ℕ
size side = length side.priorities

-- k is a number of the side, and present.
abbrev pub attends : {P : Type 0} → Side P → ℕ → Bool
attends side k = within (size side) k && side.present k

-- The priority of k answers the question about p: it is at least as high as p, or level with p.
abbrev pub ranks : {P : Type 0} → (P → P → Bool) → Side P → P → ℕ → Bool
ranks question side p k = both question (item side.priorities k) (Some p)

-- A plan is a set of pairs: `plan i s` says that programme i runs in slot s.
abbrev pub Plan : Type 0
Plan = ℕ → ℕ → Bool

-- The same plan, read from the slots' side.
abbrev pub turned : Plan → Plan
turned plan s i = plan i s

-- A board: the two sides, the allowed pairs, and the locked pairs, which every lawful plan must have.
pub record Board {P : Type 0} (reaches : P → P → Bool) : Type 0 where
  pub programmes : Side P
  pub slots : Side P
  pub allowed : ℕ → ℕ → Bool
  pub locked : Plan

-- The board with its sides exchanged. What is said of programmes is said of slots by reading it here.
abbrev pub turn : {P : Type 0} {reaches : P → P → Bool} → Board reaches → Board reaches
turn board = record {
  programmes = board.slots;
  slots = board.programmes;
  allowed = turned board.allowed;
  locked = turned board.locked;
}

-- Programme i is free: it is present, and no pair of it is locked.
abbrev pub free : {P : Type 0} {reaches : P → P → Bool} → Board reaches → ℕ → Bool
free board i = attends board.programmes i && not (any (board.locked i) (size board.slots))

-- Slot s is free, likewise.
abbrev pub slot_free : {P : Type 0} {reaches : P → P → Bool} → Board reaches → ℕ → Bool
slot_free board s = free (turn board) s

module _ {P : Type 0} {reaches : P → P → Bool} (board : Board reaches) where
  -- Programme i and slot s are present, and the pair is allowed.
  abbrev pub may_run : ℕ → ℕ → Bool
  may_run i s = attends board.programmes i && (attends board.slots s && board.allowed i s)

  -- Lawful: each pair may run, no programme runs twice, no slot is used twice, and each locked pair is there.
  pub record Lawful (plan : Plan) : Type 0 where
    pub fits : (i s : ℕ) → plan i s ≡ true → may_run i s ≡ true
    pub one_slot : (i s t : ℕ) → plan i s ≡ true → plan i t ≡ true → s ≡ t
    pub one_programme : (i j s : ℕ) → plan i s ≡ true → plan j s ≡ true → i ≡ j
    pub keeps : (i s : ℕ) → board.locked i s ≡ true → plan i s ≡ true

  -- Programme i is placed: it runs in one of the slots.
  abbrev pub placed : Plan → ℕ → Bool
  placed plan i = any (plan i) (size board.slots)

  -- Slot s is filled: one of the programmes runs in it.
  abbrev pub filled : Plan → ℕ → Bool
  filled plan s = any (turned plan s) (size board.programmes)

  -- The slot in which programme i runs, or none.
  abbrev pub slot_of : Plan → ℕ → Option ℕ
  slot_of plan i = first_from (plan i) (size board.slots) 1

  -- The programme that runs in slot s, or none.
  abbrev pub programme_in : Plan → ℕ → Option ℕ
  programme_in plan s = first_from (turned plan s) (size board.programmes) 1

  -- The tally at p is two numbers: the programmes placed, and the slots filled, of priority p or higher.
  abbrev pub tally : Plan → P → ℕ × ℕ
  tally plan p = (
    count (λ i. placed plan i && ranks reaches board.programmes p i) (size board.programmes),
    count (λ s. filled plan s && ranks reaches board.slots p s) (size board.slots),
  )

  -- The score digit at p: the programmes placed and the slots filled whose priority is level with p.
  abbrev pub digit : Plan → P → ℕ
  digit plan p =
      count (λ i. placed plan i && ranks (level reaches) board.programmes p i) (size board.programmes)
      + count (λ s. filled plan s && ranks (level reaches) board.slots p s) (size board.slots)

  -- Best: lawful, and at every p every lawful plan has at most our tally, in both numbers.
  pub record Best (plan : Plan) : Type 0 where
    pub lawful : Lawful plan
    pub programmes : (p : P) (other : Plan) → Lawful other → (tally other p).0 ≤ (tally plan p).0
    pub slots : (p : P) (other : Plan) → Lawful other → (tally other p).1 ≤ (tally plan p).1
