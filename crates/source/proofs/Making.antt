-- Counts that no maker refuses.
use Rattle.std.proofs.Common.{◌≡◌, ℕ, ◌≤◌, None, arith}
use Rattle.std.proofs.lemmas.Bool.Decides.{nat_tests}
use Rattle.refusal.specs.Limits.{side}
use Rattle.refusal.specs.Refusals.{first_refusal}
use Rattle.source.specs.Makes.{count_refusals}

pub counts_accepted : (programmes slots : ℕ) → programmes ≤ side → slots ≤ side → None ≡ first_refusal (count_refusals programmes slots)
counts_accepted programmes slots a b = grind (arith, nat_tests)
