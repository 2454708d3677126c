use Rattle.std.proofs.Common.{refl, ap}
use Rattle.matching.specs.Board as matching
use Rattle.matching.specs.Lists.{plan_of}
use Rattle.plan.specs.declared.Plan.{Plan}
use Rattle.plan.specs.Held.{held}
use Rattle.plan.specs.Parts.{ranked, board_of}
use Rattle.week.specs.Sheets.{certificate_in}
use Rattle.desk.specs.Desks.{sheet_of}
use Rattle.desk.specs.Told.{digit, tally}
use Rattle.desk.proofs.Telling.{whole_told, question_same, judged_same}
use Rattle.desk.proofs.asking.ask.Goals as goal

pub returns-in_ok-digit-in-Digit : goal.returns-in_ok-digit-in-Digit
returns-in_ok-digit-in-Digit g c possible =
    let pairs = g.S.PairSource.pairs c.args.parts.now.source.now in
    let xs = ranked c.args.parts.now.programmes.now in
    let ys = ranked c.args.parts.now.slots.now in
    let answered = c.in_ok-digit-in-Digit.ensures in
    rw c.in-Digit.is
    (whole_told pairs possible xs ys _ (λ (p : Plan). digit (matching.digit (board_of g.P.Priority.reaches pairs xs ys (held p).attendance) (plan_of (held p).slot_of) c.in-Digit.priority)) _ _ c.plan-plan.ensures answered.answer (ap digit answered.told))

pub returns-in_ok-tally-in-Tally : goal.returns-in_ok-tally-in-Tally
returns-in_ok-tally-in-Tally g c possible =
    let pairs = g.S.PairSource.pairs c.args.parts.now.source.now in
    let xs = ranked c.args.parts.now.programmes.now in
    let ys = ranked c.args.parts.now.slots.now in
    let answered = c.in_ok-tally-in-Tally.ensures in
    rw c.in-Tally.is
    (whole_told pairs possible xs ys _ (λ (p : Plan). tally (matching.tally (board_of g.P.Priority.reaches pairs xs ys (held p).attendance) (plan_of (held p).slot_of) c.in-Tally.priority)) _ _ c.plan-plan.ensures answered.answer (ap tally answered.told))

pub returns-in-Judge : goal.returns-in-Judge
returns-in-Judge g c possible =
    let parts = c.args.parts.now in
    let sheet = sheet_of c.args.standing.now in
    question_same g.P.Priority.reaches (g.S.PairSource.pairs parts.source.now) possible (ranked parts.programmes.now) (ranked parts.slots.now) sheet.plan _ (certificate_in sheet) _ refl _ c.args.question c.in-Judge.is
    (judged_same g.P.Priority.reaches (g.S.PairSource.pairs parts.source.now) possible (ranked parts.programmes.now) (ranked parts.slots.now) _ _ (certificate_in sheet) _ c.plan-plan.ensures _ _ c.deref.ensures.value (c.judge_with.ensures possible (certificate_in sheet)))

pub returns-in-JudgeStored : goal.returns-in-JudgeStored
returns-in-JudgeStored g c possible =
    let parts = c.args.parts.now in
    let sheet = sheet_of c.args.standing.now in
    question_same g.P.Priority.reaches (g.S.PairSource.pairs parts.source.now) possible (ranked parts.programmes.now) (ranked parts.slots.now) sheet.plan _ (certificate_in sheet) _ refl _ c.args.question c.in-JudgeStored.is (c.judge_stored.ensures possible)
