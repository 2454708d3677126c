use Rattle.std.proofs.Common.{Bool, not, [], ◌∷◌, sym, ap, ◌∙◌, arith}
use Rattle.refusal.specs.Refusals.{first_refusal}
use Rattle.plan.specs.Held.{held}
use Rattle.plan.specs.Parts.{ranked}
use Rattle.judge.proofs.Verdicts.{handed, parts_of, fit_of, seen, judged, best}
use Rattle.judge.proofs.judge.Goals as goal

pub returns : goal.returns
returns g c =
    let f = g.P.Priority.reaches in
    let laws = g.met.P.Priority in
    let p = g.S.PairSource.pairs c.args.parts.now.source.now in
    let xs = ranked c.args.parts.now.programmes.now in
    let ys = ranked c.args.parts.now.slots.now in
    let v = c.args.plan.now in
    let all = c.if-not-all_fit.ensures in
    let ok = (parts_of p xs ys (held v) c.args.certificate.now all).0 in
    let fit = fit_of p xs ys (held v) ok v.there v.back (omega (arith, v.programmes.together, v.programmes.present.ok.0, v.programmes.places.ok.0)) (omega (arith, v.slots.together, v.slots.present.ok.0, v.slots.places.ok.0)) in
    let told = judged f c.args.certificate.now _ _ _ c.is_passed.result _ (handed p xs ys (held v)) (seen p xs ys (held v) _ _ _ c.as_slice.ensures c.as_slice-2.ensures c.slot_of_table.ensures c.programme_in_table.ensures c.programmes_present.ensures c.slots_present.ensures) fit c.len.ensures c.split_at.ensures.front c.split_at.ensures.back c.is_passed.ensures in
    record {
      answer = ap (λ (b : Bool). first_refusal ((not b, 12) ∷ [])) all;
      passes = told;
      best = λ passed. best f (handed p xs ys (held v)) c.args.certificate.now fit (record { total = laws.total; transitive = laws.transitive }) (sym told ∙ passed);
    }
