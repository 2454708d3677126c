use Rattle.std.proofs.Common.{◌≡◌, ◌≤◌, sym, ◌∙◌, arith, rules}
use Rattle.plan.specs.Held.{held}
use Rattle.planner.proofs.Choosing.{chosen_of, highest_in}
use Rattle.planner.proofs.choose.choose.Goals as goal

pub map-requires : goal.map-requires
map-requires g c = λ x e args ranges.
    let h = highest_in g.P.Priority.reaches c.args.ranking.now c.mark_waiting.new.marks x (sym e ∙ c.highest.ensures) in
    let b : x ≤ 200 = omega arith in
    search rules

pub returns : goal.returns
returns g c =
    let plan = held c.args.plan.now in
    let same : c.map.result ≡ c.highest.result = search rules in
    chosen_of {reaches = g.P.Priority.reaches} (record { total = g.met.P.Priority.total; transitive = g.met.P.Priority.transitive }) c.args.ranking.now plan.attendance.programmes c.args.done.now plan.slot_of c.mark_waiting.new.marks (omega arith) (omega arith)
    _ _ c.programmes_present.ensures c.slot_of_table.ensures c.mark_waiting.ensures c.map.result (same ∙ c.highest.ensures)
