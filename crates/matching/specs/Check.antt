-- The rules of `Board` and `Certificate` as a test that computes, and the theorems that it is that test.
use Rattle.std.specs.Prelude.{◌≡◌, ℕ, Bool, true, not, ◌&&◌, ◌==◌, nat_eq}
use Rattle.refusal.specs.Counting.{any, all, within, ◌implies◌}
use Rattle.matching.specs.Board.{Board, Plan, size, turn, turned, free, slot_free, may_run, placed, Best}
use Rattle.matching.specs.Certificate.{Certificate, Passes, at_least, blocks}

module _ {P : Type 0} {reaches : P → P → Bool} (board : Board reaches) (plan : Plan) where
  -- What `Lawful` asks of the pair (i, s).
  abbrev pub pair_lawful : ℕ → ℕ → Bool
  pair_lawful i s =
      (plan i s implies may_run board i s)
      && ((board.locked i s implies plan i s)
      && (all (λ t. (plan i s && plan i t) implies nat_eq s t) (size board.slots)
      && all (λ j. (plan i s && plan j s) implies nat_eq i j) (size board.programmes)))

  -- The plan is lawful.
  abbrev pub lawful : Bool
  lawful = all (λ i. all (λ s. pair_lawful i s) (size board.slots)) (size board.programmes)

module _ {P : Type 0} {reaches : P → P → Bool} (board : Board reaches) (plan : Plan) (names : ℕ → ℕ) where
  -- Rule 1.
  abbrev pub unplaced_names_itself : ℕ → Bool
  unplaced_names_itself i = (free board i && not (placed board plan i)) implies nat_eq (names i) i

  -- Rule 3, at slot s.
  abbrev pub slot_blocked : ℕ → ℕ → Bool
  slot_blocked i s = (slot_free board s && board.allowed i s) implies any (blocks board plan names (names i) s) (size board.programmes)

  -- Rules 2 and 3.
  abbrev pub naming_right : ℕ → Bool
  naming_right i =
      not (names i == 0)
      implies (free board i
      && (free board (names i)
      && (not (placed board plan (names i))
      && (at_least board i (names i)
      && all (slot_blocked i) (size board.slots)))))

  -- Each programme keeps the rules.
  abbrev pub rules : Bool
  rules = all (λ i. unplaced_names_itself i && naming_right i) (size board.programmes)

-- The plan passes with the certificate.
abbrev pub passes : {P : Type 0} {reaches : P → P → Bool} → Board reaches → Plan → Certificate → Bool
passes board plan certificate = lawful board plan && (rules board plan certificate.programmes && rules (turn board) (turned plan) certificate.slots)

-- No pair of the plan lies past the counts, where the test does not look.
abbrev pub Within : {P : Type 0} {reaches : P → P → Bool} → Board reaches → Plan → Type 0
Within board plan = (i s : ℕ) → plan i s ≡ true → (within (size board.programmes) i && within (size board.slots) s) ≡ true

-- Theorem: the test says yes exactly where the plan passes.
abbrev pub TestIsExact : {P : Type 0} → (P → P → Bool) → Type 0
TestIsExact reaches =
    (board : Board reaches) (plan : Plan) (certificate : Certificate) → Within board plan → Within board board.locked
    → (passes board plan certificate ≡ true → Passes board plan certificate) × (Passes board plan certificate → passes board plan certificate ≡ true)

-- Theorem: a plan for which the test says yes is best.
abbrev pub TestedIsBest : {P : Type 0} → (P → P → Bool) → Type 0
TestedIsBest reaches = (board : Board reaches) (plan : Plan) (certificate : Certificate) → Within board plan → Within board board.locked → passes board plan certificate ≡ true → Best board plan
