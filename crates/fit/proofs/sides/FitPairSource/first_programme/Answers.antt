use Rattle.std.proofs.Common.{◌≡◌, ◌+◌, ◌≤◌, max, Some, length, vec_items, sym, ap, ◌∙◌, arith, rules, tests}
use Rattle.std.specs.List.{position}
use Rattle.std.proofs.lemmas.Iterator.{YieldsList-from_slice}
use Rattle.std.proofs.lemmas.Iterator.Search.{position_from_yields_List}
use Rattle.refusal.proofs.First.{first_empty, first_end}
use Rattle.source.specs.Pairs.{holds}
use Rattle.source.proofs.Places.{from_one, place_some, place_none}
use Rattle.fit.specs.Fitting.{fits, fit_pairs}
use Rattle.fit.proofs.ListedPairs.{programmes_stand}
use Rattle.fit.proofs.sides.FitPairSource.first_programme.Goals as goal

pub returns-then-not-is_within : goal.returns-then-not-is_within
returns-then-not-is_within c = sym (first_empty (λ i. holds (fit_pairs c.args.self.now) i c.args.slot) (fit_pairs c.args.self.now).programmes c.args.from (λ j a b. search (rules, tests)))

pub returns-in_err-programmes : goal.returns-in_err-programmes
returns-in_err-programmes c =
    c.from_residual.ensures ∙ sym (first_end _ _ _ (search arith))

pub returns-in_err-found : goal.returns-in_err-found
returns-in_err-found c =
    let fit = c.args.self.now in
    let items = c.in_ok-programmes.programmes.now in
    let found : c.position.result ≡ position (λ programme. fits programme c.index-slot.result.now) items = position_from_yields_List (λ programme. fits programme c.index-slot.result.now) _ _ _ c.position.ensures.ran (YieldsList-from_slice items cc) (λ x b q k. search (rules, tests)) in
    let known : (1 ≤ c.args.slot) × (c.args.slot ≤ length (vec_items fit.slots)) = search rules in
    let stands = programmes_stand (vec_items fit.programmes) (vec_items fit.slots) (max c.args.from 1) (search arith) c.args.slot c.index-slot.result.now known.0 known.1 c.index-slot.ensures items (search rules) (search arith) in
    c.from_residual-in_err-found.ensures
    ∙ sym (place_none (λ programme. fits programme c.index-slot.result.now) (λ i. holds (fit_pairs c.args.self.now) i c.args.slot) (length (vec_items fit.programmes)) (max c.args.from 1) items stands (search arith) (sym found ∙ c.in_err-found.was))
    ∙ from_one (λ i. holds (fit_pairs c.args.self.now) i c.args.slot) (length (vec_items fit.programmes)) c.args.from (search (rules, tests))

pub returns : goal.returns
returns c =
    let fit = c.args.self.now in
    let items = c.in_ok-programmes.programmes.now in
    let found : c.position.result ≡ position (λ programme. fits programme c.index-slot.result.now) items = position_from_yields_List (λ programme. fits programme c.index-slot.result.now) _ _ _ c.position.ensures.ran (YieldsList-from_slice items cc) (λ x b q k. search (rules, tests)) in
    let known : (1 ≤ c.args.slot) × (c.args.slot ≤ length (vec_items fit.slots)) = search rules in
    let stands = programmes_stand (vec_items fit.programmes) (vec_items fit.slots) (max c.args.from 1) (search arith) c.args.slot c.index-slot.result.now known.0 known.1 c.index-slot.ensures items (search rules) (search arith) in
    let begins : c.max-from.result ≡ max c.args.from 1 = search rules in
    ap (λ k. Some (k + c.in_ok-found.found)) begins
    ∙ sym (place_some (λ programme. fits programme c.index-slot.result.now) (λ i. holds (fit_pairs c.args.self.now) i c.args.slot) (length (vec_items fit.programmes)) (max c.args.from 1) items c.in_ok-found.found stands (search arith) (sym found ∙ c.in_ok-found.was))
    ∙ from_one (λ i. holds (fit_pairs c.args.self.now) i c.args.slot) (length (vec_items fit.programmes)) c.args.from (search (rules, tests))
