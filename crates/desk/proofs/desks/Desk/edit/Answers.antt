use Rattle.std.proofs.Common.{Ok, sym, refl, ap, ◌∙◌, subst}
use Rattle.std.proofs.VecSteps.Gaps.{with_items_is}
use Rattle.std.specs.Vec.{with_items}
use Rattle.desk.specs.declared.standing.Standing.{Standing}
use Rattle.desk.specs.declared.standing.Standing.TheVariants.{Open}
use Rattle.desk.specs.declared.desks.Desk.{Desk}
use Rattle.desk.specs.declared.calls.Call.TheVariants.{Edit}
use Rattle.desk.specs.declared.calls.Answer.TheVariants.{Done}
use Rattle.desk.specs.Told.{Served, outcome}
use Rattle.desk.specs.Moments.{meaning}
use Rattle.desk.specs.Desks.{moment_of, Step}
use Rattle.desk.proofs.Entries.{entered_lent, kept_lent, planned_lent, sheet_kept}
use Rattle.desk.proofs.Steps.{planning_step}
use Rattle.desk.proofs.desks.Desk.edit.Goals as goal

pub returns : goal.returns
returns g c =
    let M = meaning g.S.PairSource.pairs g.P.Priority.reaches g.E.EditKind.rules in
    let v = c.args.self.now in
    let with : Standing → Desk g.row.S.Denot g.row.P.Denot = λ s. record { standing = s; source = v.source; programmes = v.programmes; slots = v.slots } in
    let d = with (Open c.in-Open.week) in
    let told = c.edit_week.ensures in
    let a = c.deref_mut.ensures.value in
    let b = c.deref_mut-2.ensures.value in
    let p = with_items_is v.programmes c.edit_week.new.programmes (c.edit_week.auto.programmes ∙ c.deref_mut.ensures.len) in
    let q = with_items_is v.slots c.edit_week.new.slots (c.edit_week.auto.slots ∙ c.deref_mut-2.ensures.len) in
    let e : Desk g.row.S.Denot g.row.P.Denot = record { standing = Open c.edit_week.new.week; source = c.edit_week.new.source; programmes = with_items v.programmes c.edit_week.new.programmes; slots = with_items v.slots c.edit_week.new.slots } in
    let done_here : Served = Ok Done in
    subst (λ (x : Desk g.row.S.Denot g.row.P.Denot). Step M x (Edit c.args.edit) done_here e) (sym (ap with c.in-Open.is))
    (planning_step M d e (Edit c.args.edit) done_here c.edit_week.result (g.E.EditKind.rules.refusals (moment_of M d).ledger c.args.edit)
    (ap outcome (sym (c.in_ok-edit_week.was))) (rw (← a, ← b) told.answer) refl refl refl
    (sheet_kept c.edit_week.result c.edit_week.new.week c.in-Open.week _ (kept_lent c.edit_week.result _ _ _ _ _ _ _ _ _ _ (rw (a, b) at told.kept) p q))
    (entered_lent c.edit_week.result _ _ _ _ _ _ _ _ (rw (a, b) at told.entered) p q)
    (planned_lent c.edit_week.result _ _ _ _ _ _ _ _ told.planned p q))
