use Rattle.std.proofs.Common.{◌≡◌, ℕ, max, Bool, true, sym, ◌∙◌, arith, rules, tests}
use Rattle.std.proofs.lemmas.Bool.{and_from}
use Rattle.refusal.proofs.Counts.{within_from}
use Rattle.refusal.proofs.First.{first_empty}
use Rattle.source.specs.Pairs.{inside, holds}
use Rattle.source.proofs.Ranges.{span_found}
use Rattle.source.proofs.Places.{from_one}
use Rattle.grid.specs.GridPairs.{grid_pairs}
use Rattle.grid.proofs.Walks.{holds_at}
use Rattle.grid.proofs.sides.GridPairSource.first_programme.Goals as goal

pub returns-then-not-is_within : goal.returns-then-not-is_within
returns-then-not-is_within c = sym (first_empty (λ i. holds (grid_pairs c.args.self.now) i c.args.slot) (grid_pairs c.args.self.now).programmes c.args.from (λ j a b. search (rules, tests)))

pub returns : goal.returns
returns c =
    let pairs = grid_pairs c.args.self.now in
    let test : ℕ → Bool = λ i. holds pairs i c.args.slot in
    let same : c.map.result ≡ c.find-found.result = search rules in
    same ∙ span_found _ test _ (max c.args.from 1) pairs.programmes
    (λ x b q low high k.
    let counted : inside pairs x c.args.slot ≡ true = and_from _ _ (within_from pairs.programmes x (omega arith) high) (sym c.if-not-is_within.ensures) in
    (search rules, search rules ∙ holds_at c.args.self.now x c.args.slot counted))
    _ _ c.find-found.result (search rules) (search rules) c.find-found.ensures.ran
    ∙ from_one test pairs.programmes c.args.from (search (rules, tests))
