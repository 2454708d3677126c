-- When pairs that were written down are a plan, and which plan.
use Rattle.std.specs.Prelude.{◌≡◌, ℕ, Bool, length, Some, None, Ok, Err, Option, Result, nat_le}
use Rattle.refusal.specs.Counting.{count, first_from}
use Rattle.source.specs.Pairs.{Pairs, holds}
use Rattle.matching.specs.Lists.{plan_of}
use Rattle.plan.specs.declared.filling.Twice.{Twice}
use Rattle.plan.specs.declared.Member.TheVariants.{Programme, Slot}
use Rattle.plan.specs.Held.{Held, everyone, assigned}

-- Programme i stands in two pairs, or more.
abbrev pub twice : Pairs → ℕ → Bool
twice p i = nat_le 2 (count (λ s. holds p i s) p.slots)

-- The first programme that does, or none.
abbrev pub first_twice : Pairs → Option ℕ
first_twice p = first_from (λ i. twice p i) p.programmes 1

-- What is told of it: a programme first, then a slot.
abbrev pub found_twice : Option ℕ → Option ℕ → Option Twice
found_twice (Some i) slot = Some (record { 0 = Programme i })
found_twice None (Some s) = Some (record { 0 = Slot s })
found_twice None None = None

-- What an answer says is there twice, or none where the plan was filled.
abbrev pub twice_of : {X : Type 0} → Result X Twice → Option Twice
twice_of (Ok x) = None
twice_of (Err e) = Some e

-- The plan has the counts of the pairs.
abbrev pub SameCounts : Pairs → Held → Type 0
SameCounts p h = (length h.slot_of ≡ p.programmes) × (length h.programme_in ≡ p.slots)

-- The plan with programme i in the slot given, if one is.
abbrev pub with_slot : Held → ℕ → Option ℕ → Held
with_slot h i None = h
with_slot h i (Some s) = assigned h i s

-- The plan has the counts of the pairs and exactly these pairs, and everyone is present.
pub record PlanOf (p : Pairs) (h : Held) : Type 0 where
  pub counts : SameCounts p h
  pub pairs : (i s : ℕ) → plan_of h.slot_of i s ≡ holds p i s
  pub attendance : h.attendance ≡ everyone p.programmes p.slots
