-- The three tests together are the test of `matching`.
use Rattle.std.proofs.Common.{◌≡◌, ℕ, zero, suc, Bool, true, false, not, ◌&&◌, refl, ap, ◌∙◌}
use Rattle.refusal.specs.Counting.{all, ◌implies◌}
use Rattle.matching.specs.Board.{Board, Plan, size, free, placed}
use Rattle.matching.specs.Certificate.{at_least}
use Rattle.matching.specs.Check.{unplaced_names_itself, slot_blocked, naming_right}
use Rattle.cases.specs.RuleTests.{names_someone, named_rightly, RulesAreThree}

-- four tests, the two in the middle exchanged
and_exchange : (a b c d : Bool) → ((a && b) && (c && d)) ≡ ((a && c) && (b && d))
and_exchange true true c d = refl
and_exchange true false true d = refl
and_exchange true false false d = refl
and_exchange false b c d = refl

-- the parts of rules 2 and 3, of one programme: who names someone, and what is asked of them
naming_parts : (names present present_named unplaced high blocked : Bool) → (names implies (present && (present_named && (unplaced && (high && blocked))))) ≡ ((names implies (present && (present_named && (unplaced && high)))) && (names implies blocked))
naming_parts false a b c d e = refl
naming_parts true false b c d e = refl
naming_parts true true false c d e = refl
naming_parts true true true false d e = refl
naming_parts true true true true d e = refl

-- two tests for all numbers together are each for all
all_and : (h f g : ℕ → Bool) (n : ℕ) → ((i : ℕ) → h i ≡ (f i && g i)) → all h n ≡ (all f n && all g n)
all_and h f g zero each = refl
all_and h f g (suc n) each =
    ap (λ b. b && all h n) (each (suc n))
    ∙ ap (λ b. (f (suc n) && g (suc n)) && b) (all_and h f g n each)
    ∙ and_exchange (f (suc n)) (g (suc n)) (all f n) (all g n)

module _ {P : Type 0} {reaches : P → P → Bool} (board : Board reaches) (plan : Plan) (names : ℕ → ℕ) where
  -- rule 2 of programme i, and rule 3
  abbrev two : ℕ → Bool
  two i = names_someone board plan names i implies named_rightly board plan names i

  abbrev three : ℕ → Bool
  three i = names_someone board plan names i implies all (slot_blocked board plan names i) (size board.slots)

  naming_apart : (i : ℕ) → naming_right board plan names i ≡ (two i && three i)
  naming_apart i =
      naming_parts (names_someone board plan names i) (free board i) (free board (names i)) (not (placed board plan (names i))) (at_least board i (names i))
      (all (slot_blocked board plan names i) (size board.slots))

pub rules_are_three : {P : Type 0} {reaches : P → P → Bool} → RulesAreThree reaches
rules_are_three board plan names =
    let one = unplaced_names_itself board plan names in
    let n = size board.programmes in
    all_and _ one (naming_right board plan names) n (λ i. refl)
    ∙ ap (λ b. all one n && b) (all_and (naming_right board plan names) (two board plan names) (three board plan names) n (naming_apart board plan names))
