use Rattle.std.proofs.Common.{sym, refl, ◌∙◌, subst}
use Rattle.std.proofs.VecSteps.Gaps.{with_items_is}
use Rattle.std.specs.Vec.{with_items}
use Rattle.desk.specs.declared.standing.Standing.{Standing}
use Rattle.desk.specs.declared.standing.Standing.TheVariants.{HandedOver}
use Rattle.desk.specs.declared.desks.Desk.{Desk}
use Rattle.desk.specs.declared.calls.Call.TheVariants.{Write}
use Rattle.source.specs.Missing.{possible_if_any}
use Rattle.desk.specs.Moments.{meaning}
use Rattle.desk.specs.Desks.{Step}
use Rattle.desk.proofs.Steps.{still_step, cond_same}
use Rattle.desk.proofs.desks.Desk.write.Goals as goal

pub returns : goal.returns
returns g c =
    let M = meaning g.S.PairSource.pairs g.P.Priority.reaches g.E.EditKind.rules in
    let v = c.args.self.now in
    let told = c.write_page.ensures in
    let call = Write c.args.wanted c.args.text in
    let a = c.deref_mut.ensures.value in
    let b = c.deref_mut-2.ensures.value in
    let p = with_items_is v.programmes c.write_page.new.programmes (c.write_page.auto.programmes ∙ c.deref_mut.ensures.len) ∙ told.lists.0 ∙ a in
    let q = with_items_is v.slots c.write_page.new.slots (c.write_page.auto.slots ∙ c.deref_mut-2.ensures.len) ∙ told.lists.1 ∙ b in
    let before : Standing → Desk g.row.S.Denot g.row.P.Denot = λ s. record { standing = s; source = v.source; programmes = v.programmes; slots = v.slots } in
    let after : Standing → Desk g.row.S.Denot g.row.P.Denot = λ s. record { standing = s; source = v.source; programmes = with_items v.programmes c.write_page.new.programmes; slots = with_items v.slots c.write_page.new.slots } in
    let here = HandedOver c.in-HandedOver.week in
    subst (λ (s : Standing). Step M (before s) call c.write_page.result (after s)) (sym c.in-HandedOver.is)
    (still_step M (before here) (after here) call c.write_page.result
    (rw (a, b) at (told.told (possible_if_any g.E.EditKind.rules.possible v.source))) (rw (p, q) refl) (cond_same _ _ _ refl) refl refl refl)
