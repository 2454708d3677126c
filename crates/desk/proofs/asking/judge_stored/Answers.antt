use Rattle.std.proofs.Common.{◌≡◌, ◌+◌, length, vec_items, refl, ap, ◌∙◌}
use Rattle.plan.specs.Parts.{ranked}
use Rattle.planner.specs.declared.certificate.Certificate.{Certificate}
use Rattle.week.specs.Sheets.{certificate_in}
use Rattle.desk.specs.Desks.{sheet_of}
use Rattle.desk.proofs.Telling.{read_over, judged_same}
use Rattle.desk.proofs.asking.judge_stored.Goals as goal

pub returns : goal.returns
returns g c possible =
    let parts = c.args.parts.now in
    let sheet = sheet_of c.args.standing.now in
    let a = c.programmes.ensures ∙ ap (λ (x : Certificate). vec_items x.programmes) c.stored-stored.ensures in
    let b = c.slots.ensures ∙ ap (λ (x : Certificate). vec_items x.slots) c.stored-stored.ensures in
    let count : length c.programmes.result.now + length c.slots.result.now ≡ length (vec_items sheet.certificate.programmes) + length (vec_items sheet.certificate.slots) = rw (a, b) refl in
    judged_same g.P.Priority.reaches (g.S.PairSource.pairs parts.source.now) possible (ranked parts.programmes.now) (ranked parts.slots.now) _ _ (certificate_in sheet) _ c.plan.ensures _ _
    (read_over _ _ _ _ _ _ refl count (c.in_ok-certificate.ensures).told)
    (c.judge_with.ensures possible (certificate_in sheet))
