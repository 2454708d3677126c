use Rattle.std.proofs.Common.{◌≡◌, ◌+◌, max, Some, sym, ap, ◌∙◌, arith, rules, tests}
use Rattle.std.specs.List.{position}
use Rattle.std.proofs.lemmas.Iterator.{YieldsList-from_slice}
use Rattle.std.proofs.lemmas.Iterator.Search.{position_from_yields_List}
use Rattle.refusal.proofs.First.{first_empty, first_end}
use Rattle.source.specs.Pairs.{holds}
use Rattle.source.proofs.Places.{from_one}
use Rattle.grid.specs.GridPairs.{grid_pairs}
use Rattle.grid.proofs.Walks.{row_length, row_some, row_none}
use Rattle.grid.proofs.sides.GridPairSource.first_slot.Goals as goal

pub returns-then-not-is_within : goal.returns-then-not-is_within
returns-then-not-is_within c = sym (first_empty (holds (grid_pairs c.args.self.now) c.args.programme) (grid_pairs c.args.self.now).slots c.args.from (λ j a b. search (rules, tests)))

pub returns-in_err-cells : goal.returns-in_err-cells
returns-in_err-cells c =
    c.from_residual.ensures ∙ sym (first_end _ _ _ (search (arith, row_length)))

pub returns-in_err-found : goal.returns-in_err-found
returns-in_err-found c =
    let grid = c.args.self.now in
    let cells = c.in_ok-cells.cells.now in
    let found : c.position.result ≡ position (λ c. c) cells = position_from_yields_List (λ c. c) _ _ _ c.position.ensures.ran (YieldsList-from_slice cells cc) (λ x b q k. search (rules, tests)) in
    let counted = sym c.if-not-is_within.ensures in
    c.from_residual-in_err-found.ensures
    ∙ sym (row_none grid c.args.programme (max c.args.from 1) counted (search arith) cells (search rules) (search (arith, row_length)) (sym found ∙ c.in_err-found.was))
    ∙ from_one (holds (grid_pairs grid) c.args.programme) grid.slots c.args.from (search (rules, tests))

pub returns : goal.returns
returns c =
    let grid = c.args.self.now in
    let cells = c.in_ok-cells.cells.now in
    let found : c.position.result ≡ position (λ c. c) cells = position_from_yields_List (λ c. c) _ _ _ c.position.ensures.ran (YieldsList-from_slice cells cc) (λ x b q k. search (rules, tests)) in
    let counted = sym c.if-not-is_within.ensures in
    let begins : c.max-from.result ≡ max c.args.from 1 = search rules in
    ap (λ k. Some (k + c.in_ok-found.found)) begins
    ∙ sym (row_some grid c.args.programme (max c.args.from 1) counted (search arith) cells (search rules) (search (arith, row_length)) c.in_ok-found.found (sym found ∙ c.in_ok-found.was))
    ∙ from_one (holds (grid_pairs grid) c.args.programme) grid.slots c.args.from (search (rules, tests))
