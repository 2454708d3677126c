-- What the search and the flip keep true, step by step: the queue of those reached, the marks, and the tables.
-- In the words of the code; what they come to is said in `Paths` and `Outcomes`.
use Rattle.std.specs.Prelude.{◌≡◌, ℕ, suc, ◌+◌, ◌<◌, ◌≤◌, Bool, true, false, ◌⊎◌, List, [], ◌∷◌, length, Some, None, Option, ◌≢◌, nat_lt, slice_index_or}
use Rattle.search.specs.declared.queue.Reached.{Reached}
use Rattle.search.specs.declared.view.Verdict.{Verdict}
use Rattle.search.specs.declared.view.Verdict.TheVariants.{Pass, Empty, Lower, Add}
use Rattle.search.specs.declared.find.Looked.{Looked}
use Rattle.search.specs.declared.find.Looked.TheVariants.{Stopped, Went}
use Rattle.search.specs.declared.queue.End.{End}
use Rattle.refusal.specs.Tables.{at}
use Rattle.search.specs.Scene.{Scene, Agrees}

-- What stands past the queue's end.
abbrev pub nobody : Reached
nobody = record { member = 0; slot = 0; parent = 0; depth = 0 }

-- The member at the place k of the queue, the slot that holds it, the place that led there, and its depth.
abbrev pub who : List Reached → ℕ → ℕ
who q k = (slice_index_or q k nobody).member

abbrev pub via : List Reached → ℕ → ℕ
via q k = (slice_index_or q k nobody).slot

abbrev pub parent_of : List Reached → ℕ → ℕ
parent_of q k = (slice_index_or q k nobody).parent

abbrev pub depth_of : List Reached → ℕ → ℕ
depth_of q k = (slice_index_or q k nobody).depth

-- Member x may take the slot t.
pub record Usable (S : Scene) (x t : ℕ) : Type 0 where
  pub allowed : S.allowed x t ≡ true
  pub present : at false S.slots t ≡ true

-- The queue is a tree of steps from the root.
pub record Chain (S : Scene) (q : List Reached) : Type 0 where
  pub some : 0 < length q
  pub first : who q 0 ≡ S.root
  pub number : (k : ℕ) → k < length q → 0 < who q k
  pub high : (k : ℕ) → k < length q → S.reaches (who q k) S.root ≡ true
  pub unnamed : (k : ℕ) → k < length q → at 0 S.names (who q k) ≡ 0
  pub earlier : (k : ℕ) → 0 < k → k < length q → parent_of q k < k
  pub joined : (k : ℕ) → 0 < k → k < length q → Usable S (who q (parent_of q k)) (via q k)
  pub sits : (k : ℕ) → 0 < k → k < length q → at 0 S.member_in (via q k) ≡ who q k
  pub apart : (j k : ℕ) → j < k → k < length q → who q j ≢ who q k
  pub top : depth_of q 0 ≡ 0
  pub deeper : (k : ℕ) → 0 < k → k < length q → depth_of q k ≡ depth_of q (parent_of q k) + 1
  pub shallow : (k : ℕ) → k < length q → depth_of q k ≤ k

-- The queue is in the order of depth, and no place is more than one deeper than the place i.
pub record Levels (q : List Reached) (i : ℕ) : Type 0 where
  pub order : (j k : ℕ) → j ≤ k → k < length q → depth_of q j ≤ depth_of q k
  pub near : (k : ℕ) → k < length q → depth_of q k ≤ depth_of q i + 1

-- How many are not marked.
abbrev pub unmarked : List Bool → ℕ
unmarked [] = 0
unmarked (true ∷ xs) = unmarked xs
unmarked (false ∷ xs) = suc (unmarked xs)

-- The marks are those of the members in the queue.
pub record Marks (q : List Reached) (m : List Bool) : Type 0 where
  pub member : (k : ℕ) → k < length q → at false m (who q k) ≡ true
  pub listed : (y : ℕ) → at false m y ≡ true → (k : ℕ) × (k < length q) × (who q k ≡ y)
  pub count : length q + unmarked m ≡ length m

-- The queue and the marks only grew.
pub record Grown (q : List Reached) (m : List Bool) (q' : List Reached) (m' : List Bool) : Type 0 where
  pub more : length q ≤ length q'
  pub same : (k : ℕ) → k < length q → who q' k ≡ who q k
  pub level : (k : ℕ) → k < length q → depth_of q' k ≡ depth_of q k
  pub kept : (y : ℕ) → at false m y ≡ true → at false m' y ≡ true

-- The slot t is no way out of what is marked: if it may be used, its holder is marked or has a name.
abbrev pub Shut : Scene → List Bool → ℕ → Type 0
Shut S m t = at false S.slots t ≡ true → (0 < at 0 S.member_in t) × ((at false m (at 0 S.member_in t) ≡ true) ⊎ (0 < at 0 S.names (at 0 S.member_in t)))

-- The member y is in the queue, at the depth d or above.
pub record Listed (q : List Reached) (d y : ℕ) : Type 0 where
  pub place : ℕ
  pub within : place < length q
  pub is : who q place ≡ y
  pub depth : depth_of q place ≤ d

-- The slot t, seen from the depth d, is filled: by one in the queue no deeper than d + 1, or by one with a name, or else B.
abbrev pub Led : Scene → List Reached → ℕ → Type 0 → ℕ → Type 0
Led S q d B t = at false S.slots t ≡ true → (0 < at 0 S.member_in t) × (Listed q (d + 1) (at 0 S.member_in t) ⊎ ((0 < at 0 S.names (at 0 S.member_in t)) ⊎ B))

-- So are the slots of member x below `upto`, or all of them.
abbrev pub LedBelow : Scene → List Reached → ℕ → Type 0 → ℕ → ℕ → Type 0
LedBelow S q d B x upto = (t : ℕ) → t < upto → S.allowed x t ≡ true → Led S q d B t

abbrev pub AllLed : Scene → List Reached → ℕ → Type 0 → ℕ → Type 0
AllLed S q d B x = (t : ℕ) → S.allowed x t ≡ true → Led S q d B t

-- No slot of member x is a way out of what is marked.
abbrev pub Closed : Scene → List Bool → ℕ → Type 0
Closed S m x = (t : ℕ) → S.allowed x t ≡ true → Shut S m t

-- A path may end at the slot t: it is unfilled, or its holder is lower than the root and has no name.
pub record Exit (S : Scene) (t : ℕ) : Type 0 where
  pub present : at false S.slots t ≡ true
  pub lower : 0 < at 0 S.member_in t → S.reaches (at 0 S.member_in t) S.root ≡ false
  pub unnamed : 0 < at 0 S.member_in t → at 0 S.names (at 0 S.member_in t) ≡ 0

-- The slot t leads to the member y, who is new.
pub record Fresh (S : Scene) (m : List Bool) (t y : ℕ) : Type 0 where
  pub present : at false S.slots t ≡ true
  pub number : 0 < y
  pub sits : at 0 S.member_in t ≡ y
  pub new : at false m y ≡ false
  pub high : S.reaches y S.root ≡ true
  pub unnamed : at 0 S.names y ≡ 0

-- What each verdict on the slot t says.
abbrev pub Judged : Scene → List Bool → ℕ → Verdict → Type 0
Judged S m t Pass = Shut S m t
Judged S m t Empty = Exit S t × (at 0 S.member_in t ≡ 0)
Judged S m t Lower = Exit S t × (0 < at 0 S.member_in t)
Judged S m t (Add y) = Fresh S m t y

-- A path: over the places of the queue from the root to the place i, and from there to the slot t.
pub record Path (S : Scene) (q : List Reached) (i t : ℕ) : Type 0 where
  pub within : i < length q
  pub chain : Chain S q
  pub last : S.allowed (who q i) t ≡ true
  pub exit : Exit S t

-- From the member x the slot t leads to a lower one.
pub record Under (S : Scene) (x t : ℕ) : Type 0 where
  pub last : S.allowed x t ≡ true
  pub exit : Exit S t
  pub filled : 0 < at 0 S.member_in t

-- A slot is given.
abbrev pub SomeSlot : Option ℕ → Type 0
SomeSlot None = ⊥
SomeSlot (Some t) = Unit {0}

-- From the member x the slot that is given, if one is, leads to a lower one.
abbrev pub Unders : Scene → ℕ → Option ℕ → Type 0
Unders S x None = Unit {0}
Unders S x (Some t) = Under S x t

-- All slots of the member at the place i were walked: to a longer queue, and to the slot of a lower one, if one is given.
pub record Goes (S : Scene) (q : List Reached) (m : List Bool) (i : ℕ) (q' : List Reached) (m' : List Bool) (lower : Option ℕ) : Type 0 where
  pub chain : Chain S q'
  pub marks : Marks q' m'
  pub grown : Grown q m q' m'
  pub levels : Levels q' i
  pub led : AllLed S q' (depth_of q i) (SomeSlot lower) (who q i)
  pub under : Unders S (who q i) lower

-- The walk came to the unfilled slot t.
pub record Stops (S : Scene) (q : List Reached) (i t : ℕ) (q' : List Reached) : Type 0 where
  pub path : Path S q' i t
  pub level : depth_of q' i ≡ depth_of q i
  pub empty : at 0 S.member_in t ≡ 0

-- What each answer of the walk says.
abbrev pub Looks : Scene → List Reached → List Bool → ℕ → Looked → List Reached → List Bool → Type 0
Looks S q m i (Stopped t) q' m' = Stops S q i t q'
Looks S q m i (Went lower) q' m' = Goes S q m i q' m' lower

-- The lower end that was met, if one was, leads from before the place `next`.
abbrev pub Before : Option End → ℕ → Type 0
Before None next = Unit {0}
Before (Some e) next = e.from < next

-- A lower end was met, from the depth d or above.
abbrev pub Met : List Reached → Option End → ℕ → Type 0
Met q None d = ⊥
Met q (Some e) d = depth_of q e.from ≤ d

-- The place `next` lies deeper than the lower end that was met.
abbrev pub past : List Reached → Option End → ℕ → Bool
past q None next = false
past q (Some e) next = nat_lt (depth_of q e.from) (depth_of q next)

-- The lower end at the slot that is given, if one is, and else the one met before.
abbrev pub pick : Option End → Option ℕ → ℕ → ℕ → Option End
pick low None from depth = low
pick low (Some s) from depth = Some (record { slot = s; from = from; pairs = depth + depth + 2 })

-- The search ran dry: those marked are the root and others who hold slots, all at least as high as the root, and no slot is a way out.
pub record Stuck (S : Scene) (m : List Bool) : Type 0 where
  pub root : at false m S.root ≡ true
  pub closed : (x : ℕ) → at false m x ≡ true → Closed S m x
  pub high : (x : ℕ) → at false m x ≡ true → S.reaches x S.root ≡ true
  pub placed : (x : ℕ) → at false m x ≡ true → (x ≢ S.root) → (u : ℕ) × (at 0 S.member_in u ≡ x) × (at false S.slots u ≡ true)

-- The path to the slot t over the place i of the queue can be flipped in these tables.
pub record Shape (slot_of member_in : List ℕ) (q : List Reached) (i t : ℕ) : Type 0 where
  pub within : i < length q
  pub slot : (0 < t) × (t ≤ length member_in)
  pub root : who q 0 ≤ length slot_of
  pub unplaced : at 0 slot_of (who q 0) ≡ 0
  pub number : (k : ℕ) → k ≤ i → 0 < who q k
  pub earlier : (k : ℕ) → 0 < k → k ≤ i → parent_of q k < k
  pub sits : (k : ℕ) → 0 < k → k ≤ i → at 0 member_in (via q k) ≡ who q k
  pub apart : (j k : ℕ) → j < k → k ≤ i → who q j ≢ who q k
  pub loser : (k : ℕ) → k ≤ i → who q k ≢ at 0 member_in t

-- The new pairs of the path are among those of Q.
pub record Steps (Q : ℕ → ℕ → Bool) (q : List Reached) (i t : ℕ) : Type 0 where
  pub end : Q (who q i) t ≡ true
  pub step : (k : ℕ) → 0 < k → k ≤ i → Q (who q (parent_of q k)) (via q k) ≡ true

-- The pairs of a plan are among those of Q.
abbrev pub Lawful : (ℕ → ℕ → Bool) → List ℕ → Type 0
Lawful Q slot_of = (x u : ℕ) → 0 < u → at 0 slot_of x ≡ u → Q x u ≡ true

-- What a flip does: the root is placed, at most the lower one at the end loses its slot, no slot becomes unfilled, each new pair
-- is one of the path, and where K is positive and the path does not pass nothing changed.
pub record Kept (slot_of member_in : List ℕ) (q : List Reached) (i t : ℕ) (slot_of' member_in' : List ℕ) : Type 0 where
  pub agrees : Agrees slot_of' member_in'
  pub root : 0 < at 0 slot_of' (who q 0)
  pub loses : 0 < at 0 member_in t → at 0 slot_of' (at 0 member_in t) ≡ 0
  pub stays : (x : ℕ) → (x ≢ at 0 member_in t) → 0 < at 0 slot_of x → 0 < at 0 slot_of' x
  pub none : (x : ℕ) → (x ≢ who q 0) → at 0 slot_of x ≡ 0 → at 0 slot_of' x ≡ 0
  pub filled : (u : ℕ) → 0 < at 0 member_in u → 0 < at 0 member_in' u
  pub only : (u : ℕ) → (u ≢ t) → at 0 member_in u ≡ 0 → at 0 member_in' u ≡ 0
  pub end : 0 < at 0 member_in' t
  pub lawful : (Q : ℕ → ℕ → Bool) → Steps Q q i t → Lawful Q slot_of → Lawful Q slot_of'
  pub rest : (K : ℕ → ℕ) → K t ≡ 0 → ((k : ℕ) → 0 < k → k ≤ i → K (via q k) ≡ 0) → (u : ℕ) → 0 < K u → at 0 member_in' u ≡ at 0 member_in u
