-- From what the calls of a week promise to the entries of the ledger.
use Rattle.std.proofs.Common.{◌≡◌, ℕ, Bool, List, IfOk, IfErr, Ok, Err, Result, sym, refl, ap, subst}
use Rattle.source.specs.Pairs.{Pairs}
use Rattle.plan.specs.declared.Plan.{Plan}
use Rattle.plan.specs.Held.{Held, Sides, held, everyone}
use Rattle.plan.specs.Parts.{fits}
use Rattle.week.specs.declared.Week.{Week}
use Rattle.week.specs.Planned.{Planned}
use Rattle.planner.proofs.Plans.{plan_lengths}
use Rattle.desk.specs.Ledger.{Ledger, account, loaded, in_order}

-- a plan has one mark of attendance for each member, so that its counts are those of the ledger
pub plan_in_order : {P : Type 0} (plan : Plan) (pairs : Pairs) (possible : ℕ → ℕ → Bool) (xs ys : List P) → fits pairs xs ys (held plan) ≡ in_order (account pairs possible xs ys (held plan).attendance)
plan_in_order plan pairs possible xs ys =
    let len = plan_lengths plan in
    rw (len.programmes, len.slots) refl

-- an edit of the pairs leaves priorities and attendance
pub pairs_entered : {P T E : Type 0} (r : Result T E) (pairs' new : Pairs) (possible possible' : ℕ → ℕ → Bool) (xs ys : List P) (here here' : Sides Bool)
    → IfOk r (λ _. pairs' ≡ new) → possible' ≡ possible → IfOk r (λ _. here' ≡ here)
    → IfOk r (λ _. account pairs' possible' xs ys here' ≡ account new possible xs ys here)
pairs_entered (Ok v) pairs' new possible possible' xs ys here here' a b c = rw (a, b, c) refl
pairs_entered (Err e) pairs' new possible possible' xs ys here here' a b c = tt

-- lists that were lent and given back are the ones that were written
module _ {P T E : Type 0} (r : Result T E) (pairs : Pairs) (possible : ℕ → ℕ → Bool) (here : Sides Bool) (new : Ledger P) (xs xs'' ys ys'' : List P) where
  pub entered_lent : IfOk r (λ _. account pairs possible xs ys here ≡ new) → xs'' ≡ xs → ys'' ≡ ys → IfOk r (λ _. account pairs possible xs'' ys'' here ≡ new)
  entered_lent h a b = rw (a, b) h

  pub kept_lent : {W : Type 0} (w w' : W) → IfErr r (λ _. (w ≡ w') × (account pairs possible xs ys here ≡ new)) → xs'' ≡ xs → ys'' ≡ ys → IfErr r (λ _. (w ≡ w') × (account pairs possible xs'' ys'' here ≡ new))
  kept_lent w w' h a b = rw (a, b) h

pub planned_lent : {P T E : Type 0} (r : Result T E) (reaches : P → P → Bool) (pairs : Pairs) (plan : Held) (certificate : List ℕ) (xs xs'' ys ys'' : List P)
    → IfOk r (λ _. Planned reaches pairs xs ys plan certificate) → xs'' ≡ xs → ys'' ≡ ys → IfOk r (λ _. Planned reaches pairs xs'' ys'' plan certificate)
planned_lent r reaches pairs plan certificate xs xs'' ys ys'' h a b = rw (a, b) h

-- a week that was kept has its sheet kept
pub sheet_kept : {State T E : Type 0} (r : Result T E) (w w' : Week State) (Q : Type 0) → IfErr r (λ _. (w ≡ w') × Q) → IfErr r (λ _. (w.sheet ≡ w'.sheet) × Q)
sheet_kept (Ok v) w w' Q h = tt
sheet_kept {State} (Err x) w w' Q h = (ap (λ (x : Week State). x.sheet) h.0, h.1)

-- a load enters what was handed in
pub load_entered : {P T E : Type 0} (r : Result T E) (pairs : Pairs) (possible : ℕ → ℕ → Bool) (xs xs'' ys ys'' : List P) (here : Sides Bool)
    → IfOk r (λ _. here ≡ everyone pairs.programmes pairs.slots) → xs'' ≡ xs → ys'' ≡ ys → IfOk r (λ _. account pairs possible xs'' ys'' here ≡ loaded pairs possible xs ys)
load_entered (Ok v) pairs possible xs xs'' ys ys'' here h a b = rw (h, a, b) refl
load_entered (Err x) pairs possible xs xs'' ys ys'' here h a b = tt

-- what is accepted keeps every promise of a refusal
pub never_refused : {T E : Type 0} (r : Result T E) (v : T) (Q : E → Type 0) → r ≡ Ok v → IfErr r Q
never_refused r v Q e = subst (λ x. IfErr x Q) (sym e) tt
