use Rattle.std.proofs.Common.{vec_items, vec_len, vec_capacity, sym, ◌∙◌, subst, arith, le-ltb}
use Rattle.priority.specs.Order.{Ordered}
use Rattle.planner.proofs.Plans.{plan_lengths}
use Rattle.week.specs.Sheets.{plan_in, certificate_in}
use Rattle.desk.specs.Moments.{Moment, meaning}
use Rattle.desk.specs.Runs.{Stands, Worked}
use Rattle.desk.proofs.New.{new_stands, new_week}
use Rattle.desk.proofs.run.run.Goals as goal

pub returns : goal.returns
returns g c =
    let M = meaning g.S.PairSource.pairs g.P.Priority.reaches g.E.EditKind.rules in
    let laws : Ordered g.P.Priority.reaches = record { total = g.met.P.Priority.total; transitive = g.met.P.Priority.transitive } in
    let new = c.args.new in
    let plan = plan_in new.week.sheet in
    let len = plan_lengths new.week.sheet.plan in
    let begin = new_week (vec_items new.programmes) (vec_items new.slots) plan.slot_of (certificate_in new.week.sheet) plan.attendance
    (sym new.programmes.ok.0 ∙ new.nobody.0) (sym new.slots.ok.0 ∙ new.nobody.1) new.unplanned.0 new.unnamed (len.programmes ∙ new.unplanned.0) (len.slots ∙ new.unplanned.1) in
    let stands = new_stands laws in
    record {
      answer = sym (le-ltb (vec_capacity new.answers) (vec_len c.args.calls) (omega (arith, c.if-capacity-len.false, c.len.ensures, c.capacity.ensures)));
      ran = record {
        new = stands;
        worked = subst (λ (m : Moment g.row.P.Denot). Worked M m (vec_items c.args.calls) (vec_items c.work.result)) begin (c.work.ensures (subst (λ (m : Moment g.row.P.Denot). Stands g.P.Priority.reaches m) (sym begin) stands));
      };
    }
