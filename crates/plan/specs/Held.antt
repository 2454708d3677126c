-- What a plan holds, and what each edit makes of it. Numbers start at 1, and 0 is none.
use Rattle.std.specs.Prelude.{ℕ, Bool, true, false, not, ◌&&◌, List, [], ◌∷◌, length, replicate, vec_items}
use Rattle.refusal.specs.Counting.{within}
use Rattle.refusal.specs.Tables.{at, put}
use Rattle.plan.specs.declared.Member.{Member}
use Rattle.plan.specs.declared.Member.TheVariants.{Programme, Slot}
use Rattle.plan.specs.declared.Plan.{Plan}

-- A list for each side.
pub record Sides (X : Type 0) : Type 0 where
  pub programmes : List X
  pub slots : List X

-- For each programme its slot, for each slot its programme, and for each member whether it is present.
pub record Held : Type 0 where
  pub slot_of : List ℕ
  pub programme_in : List ℕ
  pub attendance : Sides Bool

-- What a plan holds.
abbrev pub held : Plan → Held
held plan = record {
  slot_of = vec_items plan.programmes.places;
  programme_in = vec_items plan.slots.places;
  attendance = record { programmes = vec_items plan.programmes.present; slots = vec_items plan.slots.present };
}

-- Everyone is present.
abbrev pub everyone : ℕ → ℕ → Sides Bool
everyone programmes slots = record { programmes = replicate programmes true; slots = replicate slots true }

-- Nobody is placed, and everyone is present.
abbrev pub nothing : ℕ → ℕ → Held
nothing programmes slots = record { slot_of = replicate programmes 0; programme_in = replicate slots 0; attendance = everyone programmes slots }

-- There is such a programme or slot.
abbrev pub known : Held → Member → Bool
known h (Programme i) = within (length h.slot_of) i
known h (Slot s) = within (length h.programme_in) s

-- The place of a member: the slot of a programme, or the programme of a slot, or 0.
abbrev pub place_of : Held → Member → ℕ
place_of h (Programme i) = at 0 h.slot_of i
place_of h (Slot s) = at 0 h.programme_in s

-- There are such a programme and such a slot.
abbrev pub known_pair : Held → ℕ → ℕ → Bool
known_pair h i s = within (length h.slot_of) i && within (length h.programme_in) s

-- Programme i in slot s. Whoever was in slot s has no slot then, and where i was nobody is.
abbrev pub assigned : Held → ℕ → ℕ → Held
assigned h i s = record {
  slot_of = put (put h.slot_of (at 0 h.programme_in s) 0) i s;
  programme_in = put (put h.programme_in (at 0 h.slot_of i) 0) s i;
  attendance = h.attendance;
}

-- Nobody in slot s.
abbrev pub vacated : Held → ℕ → Held
vacated h s = record {
  slot_of = put h.slot_of (at 0 h.programme_in s) 0;
  programme_in = put h.programme_in s 0;
  attendance = h.attendance;
}

-- Whether the member is present.
abbrev pub presence : Held → Member → Bool
presence h (Programme i) = at false h.attendance.programmes i
presence h (Slot s) = at false h.attendance.slots s

-- The attendance with a member present or not, as b says.
abbrev pub attending : Sides Bool → Member → Bool → Sides Bool
attending here (Programme i) b = record { programmes = put here.programmes i b; slots = here.slots }
attending here (Slot s) b = record { programmes = here.programmes; slots = put here.slots s b }

-- The plan with a member present or not, as b says.
abbrev pub with_presence : Held → Member → Bool → Held
with_presence h who b = record { slot_of = h.slot_of; programme_in = h.programme_in; attendance = attending h.attendance who b }

-- The sides exchanged.
abbrev pub turned_sides : Held → Held
turned_sides h = record {
  slot_of = h.programme_in;
  programme_in = h.slot_of;
  attendance = record { programmes = h.attendance.slots; slots = h.attendance.programmes };
}

-- A pair: 10 when a number is 0 or beyond its count.
abbrev pub pair_refusals : Held → ℕ → ℕ → List (Bool × ℕ)
pair_refusals h i s = (not (known_pair h i s), 10) ∷ []

-- A member: 10, likewise.
abbrev pub member_refusals : Held → Member → List (Bool × ℕ)
member_refusals h who = (not (known h who), 10) ∷ []
