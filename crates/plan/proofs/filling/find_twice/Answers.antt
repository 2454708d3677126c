use Rattle.std.proofs.Common.{rules, ◌∙◌}
use Rattle.plan.specs.Filling.{twice}
use Rattle.plan.proofs.Numbers.{first_of_numbers}
use Rattle.plan.proofs.filling.find_twice.Goals as goal

pub returns : goal.returns
returns g c =
    first_of_numbers _ _ (twice (g.S.PairSource.pairs c.args.source.now)) (record { start = c.new.ensures.start; end = c.new.ensures.end ∙ c.programmes.ensures; exhausted = c.new.ensures.exhausted }) _ c.find.ensures.ran (λ x b q k. search rules)
