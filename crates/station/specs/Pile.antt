-- What the station's pile means: bars over shut hours over fit.
use Rattle.std.specs.Prelude.{Bool, false, not, ◌&&◌, List, length, vec_items}
use Rattle.refusal.specs.Tables.{at}
use Rattle.source.specs.Pairs.{Pairs}
use Rattle.fit.specs.declared.Fit.{Fit}
use Rattle.fit.specs.declared.programmes.Programme.{Programme}
use Rattle.fit.specs.declared.slots.Slot.{Slot}
use Rattle.fit.specs.Fitting.{fitting, fit_pairs}
use Rattle.shut_hours.specs.declared.ShutHours.{ShutHours}
use Rattle.shut_hours.specs.Shutting.{except_shut}
use Rattle.bars.specs.declared.Bars.{Bars}
use Rattle.bars.specs.Barring.{barred_pairs}

-- The pairs of a pile: what fits, except in its shut slots, less what it barred.
abbrev pub station_pairs : Bars (ShutHours Fit) → Pairs
station_pairs station = barred_pairs (except_shut (fit_pairs station.below.below) (vec_items station.below.shut.0)) station.barred

-- The pairs of a new pile: each that fits and whose slot is not marked shut.
abbrev pub fitting_open : List Programme → List Slot → List Bool → Pairs
fitting_open programmes slots shut = record {
  programmes = length programmes;
  slots = length slots;
  allowed = λ i s. (fitting programmes slots).allowed i s && not (at false shut s);
}
