use Rattle.std.proofs.Common.{rules, ◌≡◌, length, drop, ap, ◌∙◌, arith}
use borrow.Author.Tests.{tests}
use Rattle.std.specs.List.{position, between}
use Rattle.std.proofs.lemmas.List.{take_rest}
use Rattle.std.proofs.lemmas.Iterator.{YieldsList-from_slice}
use Rattle.std.proofs.lemmas.Iterator.Search.{position_from_yields_List}
use Rattle.page_text.specs.Bytes.{blank}
use Rattle.page_text.proofs.Cuts.{ink, at_none, at_some, at_end, words_none, words_next}
use Rattle.page_text.proofs.words.WordsIterator.next.Goals as goal

pub returns-in_err-start-clause-steps : goal.returns-in_err-start-clause-steps
returns-in_err-start-clause-steps c =
    let s = c.args.self.now.rest.now in
    let e : c.position.result ≡ position ink s = position_from_yields_List ink _ _ _ c.position.ensures.ran (YieldsList-from_slice s cc) (λ x b q k. search (rules, tests)) in
    let n = words_none s (at_none ink s _ e (c.in_err-start.was)) in
    rw c.from_residual.ensures (n, n)

pub returns-clause-steps : goal.returns-clause-steps
returns-clause-steps c =
    let s = c.args.self.now.rest.now in
    let e : c.position.result ≡ position ink s = position_from_yields_List ink _ _ _ c.position.ensures.ran (YieldsList-from_slice s cc) (λ x b q k. search (rules, tests)) in
    let k = at_some ink s _ c.in_ok-start.start e (c.in_ok-start.was) in
    let t = between c.in_ok-start.start (length s) s in
    let f : c.position-blank.result ≡ position blank t = position_from_yields_List blank _ _ _ c.position-blank.ensures.ran (YieldsList-from_slice t cc) (λ x b q k. search (rules, tests)) in
    let n = c.unwrap_or.ensures ∙ at_end blank t _ f in
    let w = words_next s t (omega arith) (take_rest s c.in_ok-start.start ∙ ap (λ i. drop i s) k.0) in
    rw (c.split_at.ensures.front, c.split_at.ensures.back, n) w

pub returns-clause-goes : goal.returns-clause-goes
returns-clause-goes c = let e = returns-clause-steps c in record { on = λ _. (tt, tt, omega (arith, ap length e)); keeps = tt; rests = λ _. tt }
