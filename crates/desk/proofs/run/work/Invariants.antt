use Rattle.std.proofs.Common.{◌≡◌, ◌+◌, ◌≤◌, ◌++◌, vec_items, vec_len, vec_capacity}
use Rattle.std.specs.Vec.Iter.{into_iter_items, into_iter_len}
use Rattle.desk.specs.Moments.{meaning}
use Rattle.desk.specs.Runs.{Stands}
use Rattle.desk.specs.Desks.{moment_of}
use Rattle.desk.proofs.Works.{Reaches}
use Rattle.desk.proofs.run.work.Given as goal

abbrev pub invariant-loop-call : goal.invariant-loop-call
invariant-loop-call g l =
    let M = meaning g.S.PairSource.pairs g.P.Priority.reaches g.E.EditKind.rules in
    (Stands g.P.Priority.reaches (moment_of M l.initial.desk) → Stands g.P.Priority.reaches (moment_of M l.desk) × Reaches M (moment_of M l.initial.desk) l.yielded (vec_items l.answers) (moment_of M l.desk))
    × (vec_len l.answers + into_iter_len l.call-iterator ≤ vec_capacity l.answers)
    × (l.yielded ++ into_iter_items l.call-iterator ≡ into_iter_items l.initial.call-iterator)
