use Rattle.planner.proofs.Running.{Naming}
use Rattle.planner.proofs.pass.name_reached.Given as goal

abbrev pub invariant-loop-i : goal.invariant-loop-i
invariant-loop-i l = Naming l.initial.names l.marks l.root l.i l.names
