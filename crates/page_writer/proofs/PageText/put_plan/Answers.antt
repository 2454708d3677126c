use Rattle.std.proofs.Common.{length, rules, ap, ◌-◌, take, arith, length-take}
use Rattle.std.proofs.lemmas.List.Sums.{count_by-le-length}
use Rattle.refusal.specs.Counting.{within}
use Rattle.page_writer.proofs.PlanBack.{plan_back}
use Rattle.page_writer.proofs.Places.{first_places, first_count}
use Rattle.page_writer.proofs.PageText.put_plan.Goals as goal

pub push_line-requires-clause-rest : goal.push_line-requires-clause-rest
push_line-requires-clause-rest c =
    let few = count_by-le-length (within c.min-columns.result) (take (c.min-rows.result - 0) c.args.slot_of.now) in
    (omega arith, (omega (arith, few, c.count_places.ensures, length-take (c.min-rows.result - 0) c.args.slot_of.now), tt))

pub returns-clause-text : goal.returns-clause-text
returns-clause-text c =
    let many = first_count c.min-columns.result c.args.slot_of.now c.min-rows.result (omega arith) in
    let placed = first_places c.min-columns.result c.args.slot_of.now c.min-rows.result (omega arith) in
    search rules

pub returns-clause-back : goal.returns-clause-back
returns-clause-back c page =
    plan_back c.args.slots c.args.slot_of.now page _ (returns-clause-text c) (omega (arith, ap length c.requires))
