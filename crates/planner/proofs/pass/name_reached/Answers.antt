use Rattle.std.proofs.Common.{arith}
use Rattle.planner.proofs.Running.{renamed_end}
use Rattle.planner.proofs.pass.name_reached.Goals as goal

pub returns : goal.returns
returns c = renamed_end c.args.names.now c.args.marks.now c.args.root c.loop-i.i c.loop-i.names (omega arith) c.requires (omega arith) c.loop-i.invariant
