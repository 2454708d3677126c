use Rattle.std.proofs.Common.{rules, length-drop, refl, false-eqb, ◌≡◌, ◌<◌, length, ap, ◌∙◌, arith}
use borrow.Author.Tests.{tests}
use Rattle.std.specs.List.{position, position_or_len}
use Rattle.std.proofs.lemmas.Iterator.{YieldsList-from_slice}
use Rattle.std.proofs.lemmas.Iterator.Search.{position_from_yields_List}
use Rattle.page_text.specs.Bytes.{feed}
use Rattle.page_text.proofs.Cuts.{at_end, lines_next, after_first}
use Rattle.page_text.proofs.lines.LinesIterator.next.Goals as goal

pub returns-clause-steps : goal.returns-clause-steps
returns-clause-steps c =
    let s = c.args.self.now.rest.now in
    let e : c.position-feed.result ≡ position feed s = position_from_yields_List feed _ _ _ c.position-feed.ensures.ran (YieldsList-from_slice s cc) (λ x b q k. search (rules, tests)) in
    let some : 0 < length s = omega (arith, false-eqb _ 0 c.if-is_empty.ensures) in
    let n : c.unwrap_or.result ≡ position_or_len feed s = c.unwrap_or.ensures ∙ at_end feed s _ e in
    let rest : _ = after_first c.split_at.result.1.now c.get.result c.split_at.result.1 c.get.ensures.lookup refl in
    rw (c.split_at.ensures.front, n, c.unwrap_or-self.ensures, rest, c.split_at.ensures.back, n) (lines_next s some, simp length-drop (omega arith))

pub returns-clause-goes : goal.returns-clause-goes
returns-clause-goes c = let e = returns-clause-steps c in record { on = λ _. (tt, tt, omega (arith, ap length e.0)); keeps = tt; rests = λ _. tt }
