-- When the calls of a week refuse, in the order of testing.
use Rattle.std.specs.Prelude.{ℕ, Bool, not, List, [], ◌∷◌}
use Rattle.source.specs.Pairs.{Pairs}
use Rattle.source.specs.Edits.{bar_refusals, lift_refusals}

-- Withdraw: 12 when the parts do not fit together, 10 when there is no such member, 14 when it is absent.
abbrev pub withdraw_refusals : Bool → Bool → Bool → List (Bool × ℕ)
withdraw_refusals fit known present = (not fit, 12) ∷ (not known, 10) ∷ (not present, 14) ∷ []

-- Restore: 12 and 10 likewise, then 15 when it is present.
abbrev pub restore_refusals : Bool → Bool → Bool → List (Bool × ℕ)
restore_refusals fit known present = (not fit, 12) ∷ (not known, 10) ∷ (present, 15) ∷ []

-- The certificate: 12 likewise, then 13 when the supplied table is too short.
abbrev pub certificate_refusals : Bool → Bool → List (Bool × ℕ)
certificate_refusals fit room = (not fit, 12) ∷ (not room, 13) ∷ []

-- Bar: 12 likewise, then as the source refuses: 10, then 16.
abbrev pub week_bar_refusals : Bool → Pairs → ℕ → ℕ → List (Bool × ℕ)
week_bar_refusals fit pairs i s = (not fit, 12) ∷ bar_refusals pairs i s

-- Lift: 12 likewise, then as the source refuses: 10, 17, then 18.
abbrev pub week_lift_refusals : Bool → Pairs → (ℕ → ℕ → Bool) → ℕ → ℕ → List (Bool × ℕ)
week_lift_refusals fit pairs possible i s = (not fit, 12) ∷ lift_refusals pairs possible i s
