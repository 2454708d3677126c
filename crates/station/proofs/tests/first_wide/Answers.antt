use Rattle.std.proofs.Common.{◌≡◌, ℕ, ◌≤◌, Bool, true, sym, ◌∙◌, rules, tests, arith}
use Rattle.refusal.proofs.First.{first_end}
use Rattle.source.specs.Pairs.{holds}
use Rattle.source.proofs.Ranges.{range_found}
use Rattle.station.proofs.tests.first_wide.Goals as goal

abbrev wide : ℕ → ℕ → Bool
wide = holds (record { programmes = 250; slots = 250; allowed = λ i s. true })

pub returns-in_err-from : goal.returns-in_err-from
returns-in_err-from c =
    let beyond : 256 ≤ c.args.from = search rules in
    c.from_residual.ensures ∙ sym (first_end (wide c.args.number) 250 c.args.from (omega arith))

pub returns : goal.returns
returns c =
    let same : c.in_ok-from.from ≡ c.args.from = search rules in
    range_found _ (wide c.args.number) _ (λ x b q k. search (rules, tests)) _ _ c.find.result c.args.from 250
    (c.new.ensures.start ∙ same) c.new.ensures.end c.new.ensures.exhausted c.find.ensures.ran
