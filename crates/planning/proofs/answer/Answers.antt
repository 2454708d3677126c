use Rattle.std.proofs.Common.{Ok, Err, ap}
use Rattle.planning.proofs.answer.Goals as goal

pub returns-in_default : goal.returns-in_default
returns-in_default c =
    let came = c.in_default.ensures in
    record { found = Ok came.1.solution; holds = (came.0, came.1.solves); told = ap Ok came.1.written }

pub returns : goal.returns
returns c = record { found = Err c.in-Err.declined; holds = c.in-Err.ensures; told = ap Err c.refusal.ensures }
