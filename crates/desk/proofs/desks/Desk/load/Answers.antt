use Rattle.std.proofs.Common.{vec_items, Ok, Some, sym, refl, ap, ◌∙◌, subst}
use Rattle.std.proofs.VecSteps.Gaps.{with_items_is}
use Rattle.std.specs.Vec.{with_items}
use Rattle.plan.specs.Parts.{parts_fit, whole_refusals}
use Rattle.desk.specs.declared.standing.Standing.{Standing}
use Rattle.desk.specs.declared.standing.Standing.TheVariants.{Open}
use Rattle.desk.specs.declared.desks.Desk.{Desk}
use Rattle.desk.specs.declared.calls.Call.TheVariants.{Load}
use Rattle.desk.specs.declared.calls.Answer.TheVariants.{Done}
use Rattle.desk.specs.Told.{Served, outcome}
use Rattle.desk.specs.Moments.{meaning}
use Rattle.desk.specs.Desks.{Step}
use Rattle.desk.proofs.Entries.{load_entered, planned_lent, never_refused}
use Rattle.desk.proofs.Steps.{planning_step}
use Rattle.desk.proofs.desks.Desk.load.Goals as goal

pub returns : goal.returns
returns g c =
    let M = meaning g.S.PairSource.pairs g.P.Priority.reaches g.E.EditKind.rules in
    let v = c.args.self.now in
    let xs = c.args.programmes in
    let ys = c.args.slots in
    let call = Load c.args.source xs ys in
    let with : Standing → Desk g.row.S.Denot g.row.P.Denot = λ s. record { standing = s; source = v.source; programmes = v.programmes; slots = v.slots } in
    let r = c.load_week.result in
    let told = c.load_week.ensures in
    let a = c.deref_mut.ensures.value in
    let b = c.deref_mut-2.ensures.value in
    let p = with_items_is xs c.load_week.new.programmes (c.load_week.auto.programmes ∙ c.deref_mut.ensures.len) ∙ told.lists.0 ∙ a in
    let q = with_items_is ys c.load_week.new.slots (c.load_week.auto.slots ∙ c.deref_mut-2.ensures.len) ∙ told.lists.1 ∙ b in
    let e : Desk g.row.S.Denot g.row.P.Denot = record { standing = Open c.load_week.new.week; source = Some c.args.source; programmes = with_items xs c.load_week.new.programmes; slots = with_items ys c.load_week.new.slots } in
    let done_here : Served = Ok Done in
    subst (λ (x : Desk g.row.S.Denot g.row.P.Denot). Step M x call done_here e) (sym (ap with c.in-Open.is))
    (planning_step M (with (Open c.in-Open.week)) e call done_here r (whole_refusals (parts_fit (g.S.PairSource.pairs c.args.source) (vec_items xs) (vec_items ys)))
    (ap outcome (sym (c.in_ok-load_week.was))) (rw (a, b) at told.answer) refl refl refl
    (never_refused r _ _ (c.in_ok-load_week.was))
    (load_entered r _ _ _ _ _ _ _ told.attendance p q)
    (planned_lent r _ _ _ _ _ _ _ _ (rw (a, b) at told.planned) p q))
