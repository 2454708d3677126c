use Rattle.std.proofs.Common.{◌≡◌, List, IfOk, vec_items, sym, ◌∙◌}
use Rattle.refusal.specs.Refusals.{refusal_of, first_refusal}
use Rattle.priority.specs.declared.number.Number.{Number}
use Rattle.plan.specs.Parts.{ranked}
use Rattle.plan.specs.Held.{held}
use Rattle.grid.specs.GridPairs.{grid_pairs}
use Rattle.commands.specs.Judging.{verdict_refusals, accepts, reaches_number}
use Rattle.commands.proofs.Verdict.{same_answer, same_verdict, at_lists}
use Rattle.commands.proofs.judging.verdict.Goals as goal

pub returns : goal.returns
returns c =
    let pairs = grid_pairs c.args.week.pairs in
    let q = grid_pairs c.args.planned.now in
    let certificate = c.args.certificate.now in
    let xs = ranked c.new-programmes.result in
    let ys = ranked c.new-slots.result in
    let ex : xs ≡ vec_items c.args.week.programmes = c.new-programmes.ensures.value ∙ c.deref_mut.ensures.value in
    let ey : ys ≡ vec_items c.args.week.slots = c.new-slots.ensures.value ∙ c.deref_mut-2.ensures.value in
    let fit = sym c.pages_fit.ensures ∙ c.if-not-pages_fit.false in
    let ok = sym c.is_err.ensures.value ∙ c.if-is_err.false in
    let a = same_answer reaches_number pairs xs ys q certificate (held c.fill.new.self) c.fill.result c.judge.result fit ok c.fill.ensures.answer c.fill.ensures.after c.judge.ensures.answer in
    let b = same_verdict reaches_number pairs xs ys q certificate (held c.fill.new.self) c.fill.result c.judge.result fit ok c.fill.ensures.answer c.fill.ensures.after c.judge.ensures.passes in
    record {
      answer = at_lists (λ (us vs : List Number). refusal_of c.judge.result ≡ first_refusal (verdict_refusals pairs us vs q certificate)) ex ey a;
      told = at_lists (λ (us vs : List Number). IfOk c.judge.result (λ b. b ≡ accepts reaches_number pairs us vs q certificate)) ex ey b;
    }
