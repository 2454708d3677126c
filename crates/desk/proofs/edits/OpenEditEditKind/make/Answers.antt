use Rattle.std.proofs.Common.{Bool, ap, ◌∙◌, rules}
use Rattle.refusal.specs.Refusals.{first_refusal}
use Rattle.plan.specs.Parts.{ranked}
use Rattle.week.specs.Calls.{week_bar_refusals, week_lift_refusals}
use Rattle.source.specs.Missing.{pairs_if_any, possible_if_any}
use Rattle.desk.proofs.Entries.{plan_in_order, pairs_entered}
use Rattle.desk.proofs.edits.OpenEditEditKind.make.Goals as goal

pub returns-in-Bar : goal.returns-in-Bar
returns-in-Bar g c =
    let told = c.bar.ensures in
    let pairs = pairs_if_any g.S.PairSource.pairs c.args.source.now in
    let possible = possible_if_any g.S.OpenSource.possible c.args.source.now in
    let xs = ranked c.args.programmes.now in
    let ys = ranked c.args.slots.now in
    let e = plan_in_order c.args.week.now.sheet.plan pairs possible xs ys in
    record {
      answer = rw c.in-Bar.is (told.answer ∙ ap (λ (b : Bool). first_refusal (week_bar_refusals b pairs c.in-Bar.programme c.in-Bar.slot)) e);
      kept = search rules;
      entered = rw c.in-Bar.is (pairs_entered c.bar.result _ _ possible _ xs ys _ _ told.pairs told.possible told.attendance);
      planned = search rules;
      lent = search rules;
    }

pub returns-in-Lift : goal.returns-in-Lift
returns-in-Lift g c =
    let told = c.lift.ensures in
    let pairs = pairs_if_any g.S.PairSource.pairs c.args.source.now in
    let possible = possible_if_any g.S.OpenSource.possible c.args.source.now in
    let xs = ranked c.args.programmes.now in
    let ys = ranked c.args.slots.now in
    let e = plan_in_order c.args.week.now.sheet.plan pairs possible xs ys in
    record {
      answer = rw c.in-Lift.is (told.answer ∙ ap (λ (b : Bool). first_refusal (week_lift_refusals b pairs possible c.in-Lift.programme c.in-Lift.slot)) e);
      kept = search rules;
      entered = rw c.in-Lift.is (pairs_entered c.lift.result _ _ possible _ xs ys _ _ told.pairs told.possible told.attendance);
      planned = search rules;
      lent = search rules;
    }
