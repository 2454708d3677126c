-- Plans and certificates as they are written down: lists of numbers, read from number 1 on.
use Rattle.std.specs.Prelude.{◌≡◌, ℕ, zero, suc, ◌<◌, ◌&&◌, List, take, drop, Some, None, Option, ◌==◌, nat_le}
use Rattle.refusal.specs.Tables.{at}
use Rattle.matching.specs.Board.{Plan}
use Rattle.matching.specs.Certificate.{Certificate}

-- The plan that a list stands for: one entry a programme, its slot, or 0 where it has none.
abbrev pub plan_of : List ℕ → Plan
plan_of slot_of i s = nat_le 1 s && at 0 slot_of i == s

-- An entry of a table: the number, or none for 0.
abbrev pub number_or_none : ℕ → Option ℕ
number_or_none zero = None
number_or_none (suc k) = Some (suc k)

-- Whoever the first table sends somewhere, the second sends back. Two tables of one plan, a slot for
-- each programme and a programme for each slot, agree when each points back into the other.
abbrev pub Points : List ℕ → List ℕ → Type 0
Points there back = (i : ℕ) → 0 < at 0 there i → at 0 back (at 0 there i) ≡ i

-- The certificate that a list stands for: first one entry a programme, then one a slot.
abbrev pub certificate_of : ℕ → List ℕ → Certificate
certificate_of programmes entries = record { programmes = at 0 (take programmes entries); slots = at 0 (drop programmes entries) }
