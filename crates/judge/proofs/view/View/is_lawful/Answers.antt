use Rattle.std.proofs.Common.{rules, ◌∙◌}
use Rattle.plan.proofs.Numbers.{all_of_numbers}
use Rattle.judge.specs.Handed.{shown}
use Rattle.judge.specs.Tests.{stands}
use Rattle.judge.proofs.view.View.is_lawful.Goals as goal

pub returns : goal.returns
returns g c =
    all_of_numbers _ _ (stands (shown g.S.PairSource.pairs c.args.self.now)) (record { start = c.new.ensures.start; end = c.new.ensures.end ∙ c.programmes.ensures; exhausted = c.new.ensures.exhausted }) _ c.all.ensures.ran (λ x b q k. search rules)
