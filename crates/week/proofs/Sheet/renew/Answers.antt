use Rattle.plan.specs.Parts.{ranked}
use Rattle.week.proofs.Planning.{planned}
use Rattle.week.proofs.Sheet.renew.Goals as goal

pub returns : goal.returns
returns g c =
    let told = c.settle.ensures in
    record {
      attendance = told.attendance;
      planned = planned g.P.Priority.reaches (g.S.PairSource.pairs c.args.parts.now.source.now) (ranked c.args.parts.now.programmes.now) (ranked c.args.parts.now.slots.now)
          c.args.self.now.plan c.settle.new.plan c.settle.new.certificate c.settle.result c.requires told.answer told.attendance told.passes told.best told.counts;
    }
