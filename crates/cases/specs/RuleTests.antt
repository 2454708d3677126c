-- The three rules of a certificate, each as a test of its own. `matching` tests them together, programme by programme.
use Rattle.std.specs.Prelude.{◌≡◌, ℕ, Bool, not, ◌&&◌, ◌==◌}
use Rattle.refusal.specs.Counting.{all, ◌implies◌}
use Rattle.matching.specs.Board.{Board, Plan, size, free, placed}
use Rattle.matching.specs.Certificate.{at_least}
use Rattle.matching.specs.Check.{unplaced_names_itself, slot_blocked, rules}

module _ {P : Type 0} {reaches : P → P → Bool} (board : Board reaches) (plan : Plan) (names : ℕ → ℕ) where
  -- Programme i names someone.
  abbrev pub names_someone : ℕ → Bool
  names_someone i = not (names i == 0)

  -- Rule 2, of programme i: it is present, the one it names is present and unplaced, and i is at least as high.
  abbrev pub named_rightly : ℕ → Bool
  named_rightly i = free board i && (free board (names i) && (not (placed board plan (names i)) && at_least board i (names i)))

  -- Rule 1: each present programme that is not placed names itself.
  abbrev pub rule_one : Bool
  rule_one = all (unplaced_names_itself board plan names) (size board.programmes)

  -- Rule 2, of each programme that names someone.
  abbrev pub rule_two : Bool
  rule_two = all (λ i. names_someone i implies named_rightly i) (size board.programmes)

  -- Rule 3, of each programme that names someone: each present slot allowed to it is filled, by one that names one at least as high.
  abbrev pub rule_three : Bool
  rule_three = all (λ i. names_someone i implies all (slot_blocked board plan names i) (size board.slots)) (size board.programmes)

-- Together they are the test of `matching`, for every board, plan and certificate.
abbrev pub RulesAreThree : {P : Type 0} → (P → P → Bool) → Type 0
RulesAreThree reaches =
    (board : Board reaches) (plan : Plan) (names : ℕ → ℕ)
    → rules board plan names ≡ (rule_one board plan names && (rule_two board plan names && rule_three board plan names))
