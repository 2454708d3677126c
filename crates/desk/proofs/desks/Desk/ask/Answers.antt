use Rattle.std.proofs.Common.{refl, ◌∙◌}
use Rattle.std.proofs.VecSteps.Gaps.{with_items_is}
use Rattle.std.specs.Vec.{with_items}
use Rattle.desk.specs.declared.desks.Desk.{Desk}
use Rattle.desk.specs.declared.calls.Call.TheVariants.{Ask}
use Rattle.week.specs.Sheets.{plan_in, certificate_in}
use Rattle.source.specs.Missing.{pairs_if_any, possible_if_any}
use Rattle.desk.specs.Desks.{sheet_of}
use Rattle.desk.specs.Moments.{meaning}
use Rattle.desk.proofs.Telling.{lists_same}
use Rattle.desk.proofs.Steps.{still_step, cond_same}
use Rattle.desk.proofs.desks.Desk.ask.Goals as goal

pub returns : goal.returns
returns g c =
    let v = c.args.self.now in
    let told = c.ask_week.ensures in
    let sheet = sheet_of v.standing in
    let possible = possible_if_any g.E.EditKind.rules.possible v.source in
    let a = c.deref_mut.ensures.value in
    let b = c.deref_mut-2.ensures.value in
    let p = with_items_is v.programmes c.ask_week.new.programmes (c.ask_week.auto.programmes ∙ c.deref_mut.ensures.len) ∙ told.lists.0 ∙ a in
    let q = with_items_is v.slots c.ask_week.new.slots (c.ask_week.auto.slots ∙ c.deref_mut-2.ensures.len) ∙ told.lists.1 ∙ b in
    let e : Desk g.row.S.Denot g.row.P.Denot = record { standing = v.standing; source = v.source; programmes = with_items v.programmes c.ask_week.new.programmes; slots = with_items v.slots c.ask_week.new.slots } in
    still_step (meaning g.S.PairSource.pairs g.P.Priority.reaches g.E.EditKind.rules) v e (Ask c.args.question) c.ask_week.result
    (lists_same g.P.Priority.reaches (pairs_if_any g.S.PairSource.pairs v.source) possible (plan_in sheet).attendance (plan_in sheet).slot_of (certificate_in sheet) c.args.question _ _ _ _ _ a b (told.told possible)) (rw (p, q) refl) (cond_same _ _ _ refl) refl refl refl
