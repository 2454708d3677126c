-- Lemmas on a new pile: it means what fits in open hours.
use Rattle.std.proofs.Common.{◌≡◌, ℕ, ◌≤◌, min, Bool, false, not, ◌&&◌, List, length, IfOk, Ok, Err, vec_items, Result, ap, ◌∙◌, arith}
use Rattle.refusal.specs.Limits.{side}
use Rattle.refusal.specs.Tables.{at}
use Rattle.refusal.specs.declared.MakeError.{MakeError}
use Rattle.source.specs.Pairs.{Pairs, cut}
use Rattle.fit.specs.declared.Fit.{Fit}
use Rattle.fit.specs.declared.programmes.Programme.{Programme}
use Rattle.fit.specs.declared.slots.Slot.{Slot}
use Rattle.fit.specs.Fitting.{fitting, fit_pairs}
use Rattle.shut_hours.specs.declared.ShutHours.{ShutHours}
use Rattle.shut_hours.specs.Shutting.{except_shut}
use Rattle.bars.specs.declared.Bars.{Bars}
use Rattle.bars.specs.Barring.{barred_pairs}
use Rattle.station.specs.Pile.{station_pairs, fitting_open}

-- two facts of what was made give a third
both_made : {X Y : Type 0} (r : Result X Y) (P Q R : X → Type 0) → ((x : X) → P x → Q x → R x) → IfOk r P → IfOk r Q → IfOk r R
both_made (Ok x) P Q R f p q = f x p q
both_made (Err y) P Q R f p q = tt

-- counts that are within the cut stay
uncut : (programmes : List Programme) (slots : List Slot) (shut : List Bool) → length programmes ≤ side → length slots ≤ side → cut (except_shut (fitting programmes slots) shut) ≡ fitting_open programmes slots shut
uncut programmes slots shut a b =
    let m : min (min (length programmes) side) side ≡ length programmes = omega arith in
    let n : min (min (length slots) side) side ≡ length slots = omega arith in
    let allowed : ℕ → ℕ → Bool = λ i s. (fitting programmes slots).allowed i s && not (at false shut s) in
    ap {B = Pairs} (λ x. record { programmes = x; slots = min (min (length slots) side) side; allowed = allowed }) m ∙ ap {B = Pairs} (λ x. record { programmes = length programmes; slots = x; allowed = allowed }) n

hours_made : (hours : ShutHours Fit) (fit : Fit) (programmes : List Programme) (slots : List Slot) (shut : List Bool) → hours.below ≡ fit → vec_items hours.shut.0 ≡ shut → fit_pairs fit ≡ fitting programmes slots → length programmes ≤ side → length slots ≤ side → cut (except_shut (fit_pairs hours.below) (vec_items hours.shut.0)) ≡ fitting_open programmes slots shut
hours_made hours fit programmes slots shut x y z a b =
    ap (λ f. cut (except_shut (fit_pairs f) (vec_items hours.shut.0))) x ∙ ap (λ marks. cut (except_shut (fit_pairs fit) marks)) y ∙ ap (λ p. cut (except_shut p shut)) z ∙ uncut programmes slots shut a b

pub pile_made : (r : Result (Bars (ShutHours Fit)) MakeError) (hours : ShutHours Fit) (fit : Fit) (programmes : List Programme) (slots : List Slot) (shut : List Bool) → IfOk r (λ bars. bars.below ≡ hours) → IfOk r (λ bars. barred_pairs (except_shut (fit_pairs hours.below) (vec_items hours.shut.0)) bars.barred ≡ cut (except_shut (fit_pairs hours.below) (vec_items hours.shut.0))) → hours.below ≡ fit → vec_items hours.shut.0 ≡ shut → fit_pairs fit ≡ fitting programmes slots → length programmes ≤ side → length slots ≤ side → IfOk r (λ station. station_pairs station ≡ fitting_open programmes slots shut)
pile_made r hours fit programmes slots shut below pairs x y z a b =
    both_made r _ _ (λ station. station_pairs station ≡ fitting_open programmes slots shut)
    (λ bars p q. ap (λ h. barred_pairs (except_shut (fit_pairs h.below) (vec_items h.shut.0)) bars.barred) p ∙ q ∙ hours_made hours fit programmes slots shut x y z a b)
    below pairs
