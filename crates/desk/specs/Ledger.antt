-- The ledger: a week's plain account, from the arguments of its calls alone.
use Rattle.std.specs.Prelude.{ℕ, Bool, false, ◌&&◌, List, [], length, ◌==◌}
use Rattle.refusal.specs.Counting.{within}
use Rattle.refusal.specs.Tables.{at}
use Rattle.source.specs.Pairs.{Pairs, empty_pairs, changed}
use Rattle.matching.specs.Board.{Board}
use Rattle.plan.specs.declared.Member.{Member}
use Rattle.plan.specs.declared.Member.TheVariants.{Programme, Slot}
use Rattle.plan.specs.Held.{Sides, everyone, attending}
use Rattle.plan.specs.Parts.{parts_fit, board_of}
use Rattle.week.specs.Sheets.{programmes_with, slots_with}

-- Counts and allowed pairs, the pairs that can be lifted, the priorities of both sides, and who is present.
pub record Ledger (P : Type 0) : Type 0 where
  pub pairs : Pairs
  pub possible : ℕ → ℕ → Bool
  pub programmes : List P
  pub slots : List P
  pub attendance : Sides Bool

-- A ledger with these entries.
abbrev pub account : {P : Type 0} → Pairs → (ℕ → ℕ → Bool) → List P → List P → Sides Bool → Ledger P
account pairs possible programmes slots attendance = record { pairs = pairs; possible = possible; programmes = programmes; slots = slots; attendance = attendance }

-- New: nobody, and nothing allowed.
abbrev pub new_ledger : {P : Type 0} → Ledger P
new_ledger = account (empty_pairs 0 0) (λ i s. false) [] [] (everyone 0 0)

-- The board from which lawful plans and priorities are read.
abbrev pub board : {P : Type 0} (reaches : P → P → Bool) → Ledger P → Board reaches
board reaches l = board_of reaches l.pairs l.programmes l.slots l.attendance

-- Its entries fit together: at most `side` on each side, one priority and one mark of attendance for each.
abbrev pub in_order : {P : Type 0} → Ledger P → Bool
in_order l =
    parts_fit l.pairs l.programmes l.slots
    && (length l.attendance.programmes == l.pairs.programmes
    && length l.attendance.slots == l.pairs.slots)

-- There is such a programme or slot.
abbrev pub counted : {P : Type 0} → Ledger P → Member → Bool
counted l (Programme i) = within (length l.attendance.programmes) i
counted l (Slot s) = within (length l.attendance.slots) s

-- It is present.
abbrev pub here : {P : Type 0} → Ledger P → Member → Bool
here l (Programme i) = at false l.attendance.programmes i
here l (Slot s) = at false l.attendance.slots s

-- ---- what the accepted calls enter
-- Load enters what is handed in, with everyone present.
abbrev pub loaded : {P : Type 0} → Pairs → (ℕ → ℕ → Bool) → List P → List P → Ledger P
loaded pairs possible programmes slots = account pairs possible programmes slots (everyone pairs.programmes pairs.slots)

-- Bar and lift take a pair out of the allowed ones, or put it in.
abbrev pub with_allowed : {P : Type 0} → Ledger P → ℕ → ℕ → Bool → Ledger P
with_allowed l i s b = account (changed l.pairs i s b) l.possible l.programmes l.slots l.attendance

-- Rank sets one priority.
abbrev pub with_priority : {P : Type 0} → Ledger P → Member → P → Ledger P
with_priority l who p = account l.pairs l.possible (programmes_with l.programmes who p) (slots_with l.slots who p) l.attendance

-- Withdraw marks one as absent, and restore as present again.
abbrev pub with_present : {P : Type 0} → Ledger P → Member → Bool → Ledger P
with_present l who b = account l.pairs l.possible l.programmes l.slots (attending l.attendance who b)
