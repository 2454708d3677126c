-- Which programme fits which slot.
use Rattle.std.specs.Prelude.{Bool, false, ◌&&◌, List, length, Some, None, vec_items, Option, nat_le}
use Rattle.refusal.specs.Counting.{◌implies◌}
use Rattle.refusal.specs.Tables.{item}
use Rattle.source.specs.Pairs.{Pairs}
use Rattle.fit.specs.Times.{late_start}
use Rattle.fit.specs.declared.programmes.Programme.{Programme}
use Rattle.fit.specs.declared.slots.Slot.{Slot}
use Rattle.fit.specs.declared.Fit.{Fit}

-- The programme is no longer than the slot and, if it is for late hours only, the slot starts in them.
abbrev pub fits : Programme → Slot → Bool
fits programme slot = nat_le programme.length slot.length && (programme.late implies late_start slot.start)

-- Both are there, and the one fits the other.
abbrev pub both_fit : Option Programme → Option Slot → Bool
both_fit None slot = false
both_fit (Some programme) None = false
both_fit (Some programme) (Some slot) = fits programme slot

-- The pairs that programmes and slots mean: each that fits.
abbrev pub fitting : List Programme → List Slot → Pairs
fitting programmes slots = record {
  programmes = length programmes;
  slots = length slots;
  allowed = λ i s. both_fit (item programmes i) (item slots s);
}

-- The pairs of a fit source.
abbrev pub fit_pairs : Fit → Pairs
fit_pairs fit = fitting (vec_items fit.programmes) (vec_items fit.slots)
