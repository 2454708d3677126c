-- A new week stands: there is nobody to place.
use Rattle.std.proofs.Common.{◌≡◌, ℕ, Bool, true, false, leb, List, [], ◌∷◌, length, sym, refl, true≢false, suc-ne-zero, arith}
use Rattle.std.proofs.lemmas.Bool.{and_parts, leb-true}
use Rattle.refusal.specs.Counting.{within}
use Rattle.source.specs.Pairs.{empty_pairs}
use Rattle.priority.specs.Order.{Ordered}
use Rattle.matching.specs.Lists.{plan_of, certificate_of}
use Rattle.matching.proofs.Lists.{plan_parts}
use Rattle.matching.proofs.Checks.{tested_is_best}
use Rattle.plan.specs.Held.{Sides}
use Rattle.desk.specs.Ledger.{board, new_ledger, account}
use Rattle.desk.specs.Moments.{Moment, new_moment}
use Rattle.desk.specs.Runs.{Stands}

nobody : {A : Type 0} (i : ℕ) → within 0 i ≡ true → A
nobody i h = let (a, b) = and_parts (leb 1 i) (leb i 0) h in absurd (let z : ⊥ = omega (arith, leb-true _ _ a, leb-true _ _ b) in z)

pub new_stands : {P : Type 0} {reaches : P → P → Bool} → Ordered reaches → Stands reaches new_moment
new_stands {P} {reaches} laws =
    record {
      ordered = refl;
      best = tested_is_best laws (board reaches new_ledger) (plan_of []) (certificate_of 0 []) (λ i s h. nobody i (plan_parts [] i s h).2) (λ i s h. absurd (true≢false (sym h))) refl;
      entries = refl;
      passing = refl;
    }

none : {X : Type 0} (xs : List X) → length xs ≡ 0 → xs ≡ []
none [] e = refl
none (x ∷ xs) e = absurd (suc-ne-zero (length xs) e)

-- a week of empty lists is a new week
pub new_week : {P : Type 0} (xs ys : List P) (plan certificate : List ℕ) (here : Sides Bool) → length xs ≡ 0 → length ys ≡ 0 → length plan ≡ 0 → length certificate ≡ 0 → length here.programmes ≡ 0 → length here.slots ≡ 0
    → ◌≡◌ {A = Moment P} (record { opened = true; ledger = account (empty_pairs 0 0) (λ i s. false) xs ys here; plan = plan; certificate = certificate }) new_moment
new_week xs ys plan certificate here a b c d e f = rw (none xs a, none ys b, none plan c, none certificate d, none here.programmes e, none here.slots f) refl
