use Rattle.std.proofs.Common.{rules}
use Rattle.pages.proofs.Steps.{onward_stops}
use Rattle.pages.proofs.content.fill.Goals as goal

pub returns-in_err-take_line-clause-answer : goal.returns-in_err-take_line-clause-answer
returns-in_err-take_line-clause-answer g c =
    let of = g.C.Content in
    let e = onward_stops (of.format (of.fixed c.loop-line.content)) c.loop-line.reader.place _ c.loop-line.line-iterator.rest.now _ _ _ c.in-Some.ensures.steps.0 c.in_err-take_line.ensures.step in
    search rules
