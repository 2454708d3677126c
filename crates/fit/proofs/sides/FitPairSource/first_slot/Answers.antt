use Rattle.std.proofs.Common.{◌≡◌, ◌+◌, ◌≤◌, max, Some, length, vec_items, sym, ap, ◌∙◌, arith, rules, tests}
use Rattle.std.specs.List.{position}
use Rattle.std.proofs.lemmas.Iterator.{YieldsList-from_slice}
use Rattle.std.proofs.lemmas.Iterator.Search.{position_from_yields_List}
use Rattle.refusal.proofs.First.{first_empty, first_end}
use Rattle.source.specs.Pairs.{holds}
use Rattle.source.proofs.Places.{from_one, place_some, place_none}
use Rattle.fit.specs.Fitting.{fits, fit_pairs}
use Rattle.fit.proofs.ListedPairs.{slots_stand}
use Rattle.fit.proofs.sides.FitPairSource.first_slot.Goals as goal

pub returns-then-not-is_within : goal.returns-then-not-is_within
returns-then-not-is_within c = sym (first_empty (holds (fit_pairs c.args.self.now) c.args.programme) (fit_pairs c.args.self.now).slots c.args.from (λ j a b. search (rules, tests)))

pub returns-in_err-slots : goal.returns-in_err-slots
returns-in_err-slots c =
    c.from_residual.ensures ∙ sym (first_end _ _ _ (search arith))

pub returns-in_err-found : goal.returns-in_err-found
returns-in_err-found c =
    let fit = c.args.self.now in
    let items = c.in_ok-slots.slots.now in
    let found : c.position.result ≡ position (fits c.index-programme.result.now) items = position_from_yields_List (fits c.index-programme.result.now) _ _ _ c.position.ensures.ran (YieldsList-from_slice items cc) (λ x b q k. search (rules, tests)) in
    let known : (1 ≤ c.args.programme) × (c.args.programme ≤ length (vec_items fit.programmes)) = search rules in
    let stands = slots_stand (vec_items fit.programmes) (vec_items fit.slots) (max c.args.from 1) (search arith) c.args.programme c.index-programme.result.now known.0 known.1 c.index-programme.ensures items (search rules) (search arith) in
    c.from_residual-in_err-found.ensures
    ∙ sym (place_none (fits c.index-programme.result.now) (holds (fit_pairs c.args.self.now) c.args.programme) (length (vec_items fit.slots)) (max c.args.from 1) items stands (search arith) (sym found ∙ c.in_err-found.was))
    ∙ from_one (holds (fit_pairs c.args.self.now) c.args.programme) (length (vec_items fit.slots)) c.args.from (search (rules, tests))

pub returns : goal.returns
returns c =
    let fit = c.args.self.now in
    let items = c.in_ok-slots.slots.now in
    let found : c.position.result ≡ position (fits c.index-programme.result.now) items = position_from_yields_List (fits c.index-programme.result.now) _ _ _ c.position.ensures.ran (YieldsList-from_slice items cc) (λ x b q k. search (rules, tests)) in
    let known : (1 ≤ c.args.programme) × (c.args.programme ≤ length (vec_items fit.programmes)) = search rules in
    let stands = slots_stand (vec_items fit.programmes) (vec_items fit.slots) (max c.args.from 1) (search arith) c.args.programme c.index-programme.result.now known.0 known.1 c.index-programme.ensures items (search rules) (search arith) in
    let begins : c.max-from.result ≡ max c.args.from 1 = search rules in
    ap (λ k. Some (k + c.in_ok-found.found)) begins
    ∙ sym (place_some (fits c.index-programme.result.now) (holds (fit_pairs c.args.self.now) c.args.programme) (length (vec_items fit.slots)) (max c.args.from 1) items c.in_ok-found.found stands (search arith) (sym found ∙ c.in_ok-found.was))
    ∙ from_one (holds (fit_pairs c.args.self.now) c.args.programme) (length (vec_items fit.slots)) c.args.from (search (rules, tests))
