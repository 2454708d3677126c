use Rattle.std.proofs.Common.{◌≡◌, ◌++◌, take, drop}
use Rattle.week.proofs.renewal.write_over.Given as goal

abbrev pub invariant-loop-i : goal.invariant-loop-i
invariant-loop-i l = l.table ≡ take l.i l.numbers ++ drop l.i l.initial.table
