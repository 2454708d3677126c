-- A source, two rankings and a plan: when they fit together, and the board that they stand for.
use Rattle.std.specs.Prelude.{ℕ, Bool, false, not, ◌&&◌, List, [], ◌∷◌, length, Option, ◌==◌, nat_le}
use Rattle.refusal.specs.Limits.{side}
use Rattle.refusal.specs.Tables.{at}
use Rattle.priority.specs.declared.ranking.Ranking.{Ranking}
use Rattle.source.specs.Pairs.{Pairs, holds}
use Rattle.matching.specs.Board.{Board, Plan, slot_of, programme_in}
use Rattle.plan.specs.declared.Member.{Member}
use Rattle.plan.specs.declared.Member.TheVariants.{Programme, Slot}
use Rattle.plan.specs.declared.parts.Parts.{Parts}
use Rattle.plan.specs.Held.{Held, Sides}

-- The priorities of a ranking, in their order.
abbrev pub ranked : {P : Type 0} → Ranking P → List P
ranked ranking = ranking.table.now

-- The source has at most `side` on each side, and each ranking has one priority for each that it counts.
abbrev pub parts_fit : {P : Type 0} → Pairs → List P → List P → Bool
parts_fit pairs programmes slots =
    nat_le pairs.programmes side
    && (nat_le pairs.slots side
    && (length programmes == pairs.programmes
    && length slots == pairs.slots))

-- They do, and the plan has the source's counts.
abbrev pub fits : {P : Type 0} → Pairs → List P → List P → Held → Bool
fits pairs programmes slots plan =
    parts_fit pairs programmes slots
    && (length plan.slot_of == pairs.programmes
    && length plan.programme_in == pairs.slots)

-- The board of a source, two lists of priorities and who is present. No pair is locked.
abbrev pub board_of : {P : Type 0} (reaches : P → P → Bool) → Pairs → List P → List P → Sides Bool → Board reaches
board_of reaches pairs programmes slots attendance = record {
  programmes = record { priorities = programmes; present = at false attendance.programmes };
  slots = record { priorities = slots; present = at false attendance.slots };
  allowed = holds pairs;
  locked = λ i s. false;
}

-- The parts handed in fit together, and with the plan.
abbrev pub fit_with : {S P : Type 0} → (S → Pairs) → Parts S P → Held → Bool
fit_with pairs parts plan = fits (pairs parts.source.now) (ranked parts.programmes.now) (ranked parts.slots.now) plan

-- The board that the parts handed in stand for, with the plan's attendance.
abbrev pub board_with : {S P : Type 0} (reaches : P → P → Bool) → (S → Pairs) → Parts S P → Held → Board reaches
board_with reaches pairs parts plan = board_of reaches (pairs parts.source.now) (ranked parts.programmes.now) (ranked parts.slots.now) plan.attendance

-- The slot in which a programme runs, or the programme that runs in a slot, or none.
abbrev pub place_told : {P : Type 0} {reaches : P → P → Bool} → Board reaches → Plan → Member → Option ℕ
place_told board plan (Programme i) = slot_of board plan i
place_told board plan (Slot s) = programme_in board plan s

-- A question about the whole plan: 12 when the parts do not fit together.
abbrev pub whole_refusals : Bool → List (Bool × ℕ)
whole_refusals fit = (not fit, 12) ∷ []

-- A question about a programme or a slot: 12 as above, then 10 when there is no such one.
abbrev pub one_refusals : Bool → Bool → List (Bool × ℕ)
one_refusals fit known = (not fit, 12) ∷ (not known, 10) ∷ []
