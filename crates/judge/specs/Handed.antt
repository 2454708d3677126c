-- What the judge is handed, when it fits together, and the board that it stands for.
use Rattle.std.specs.Prelude.{◌≡◌, ℕ, ◌+◌, Bool, not, ◌&&◌, List, [], ◌∷◌, length, ◌==◌}
use Rattle.source.specs.Pairs.{Pairs, turned}
use Rattle.matching.specs.Board.{Board}
use Rattle.matching.specs.Lists.{Points}
use Rattle.plan.specs.Held.{Held, turned_sides}
use Rattle.plan.specs.declared.parts.Parts.{Parts}
use Rattle.plan.specs.Parts.{ranked, fits, board_of}
use Rattle.judge.specs.declared.view.View.{View}

-- Source, rankings and plan fit together, and the certificate has one entry for each programme and each slot.
abbrev pub all_fit : {P : Type 0} → Pairs → List P → List P → Held → List ℕ → Bool
all_fit pairs programmes slots plan certificate = fits pairs programmes slots plan && length certificate == pairs.programmes + pairs.slots

-- The judge refuses 12 where they do not.
abbrev pub judge_refusals : {P : Type 0} → Pairs → List P → List P → Held → List ℕ → List (Bool × ℕ)
judge_refusals pairs programmes slots plan certificate = (not (all_fit pairs programmes slots plan certificate), 12) ∷ []

-- Both of the parts handed in, a plan and a certificate.
abbrev pub all_fit_with : {S P : Type 0} → (S → Pairs) → Parts S P → Held → List ℕ → Bool
all_fit_with pairs parts plan certificate = all_fit (pairs parts.source.now) (ranked parts.programmes.now) (ranked parts.slots.now) plan certificate

abbrev pub judge_refusals_with : {S P : Type 0} → (S → Pairs) → Parts S P → Held → List ℕ → List (Bool × ℕ)
judge_refusals_with pairs parts plan certificate = judge_refusals (pairs parts.source.now) (ranked parts.programmes.now) (ranked parts.slots.now) plan certificate

-- What is handed in, as values.
pub record Handed (P : Type 0) : Type 0 where
  pub pairs : Pairs
  pub programmes : List P
  pub slots : List P
  pub plan : Held

-- What a view shows of them.
abbrev pub shown : {S P : Type 0} → (S → Pairs) → View S P → Handed P
shown pairs view = record {
  pairs = pairs view.source.now;
  programmes = view.programmes.priorities.now;
  slots = view.slots.priorities.now;
  plan = record {
    slot_of = view.programmes.places.now;
    programme_in = view.slots.places.now;
    attendance = record { programmes = view.programmes.present.now; slots = view.slots.present.now };
  };
}

-- What is handed in, with their sides exchanged.
abbrev pub turn_handed : {P : Type 0} → Handed P → Handed P
turn_handed t = record { pairs = turned t.pairs; programmes = t.slots; slots = t.programmes; plan = turned_sides t.plan }

-- The board that it stands for.
abbrev pub board_in : {P : Type 0} (reaches : P → P → Bool) → Handed P → Board reaches
board_in reaches t = board_of reaches t.pairs t.programmes t.slots t.plan.attendance

-- The tables are as long as the source says, and those of the plan agree.
pub record Fit {P : Type 0} (t : Handed P) : Type 0 where
  pub programmes : t.pairs.programmes ≡ length t.programmes
  pub slots : t.pairs.slots ≡ length t.slots
  pub slot_of : length t.plan.slot_of ≡ length t.programmes
  pub programme_in : length t.plan.programme_in ≡ length t.slots
  pub programmes_present : length t.plan.attendance.programmes ≡ length t.programmes
  pub slots_present : length t.plan.attendance.slots ≡ length t.slots
  pub there : Points t.plan.slot_of t.plan.programme_in
  pub back : Points t.plan.programme_in t.plan.slot_of
