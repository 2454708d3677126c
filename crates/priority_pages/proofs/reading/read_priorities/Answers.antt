use Rattle.std.proofs.Common.{length}
use Rattle.pages.proofs.Kept.{rows_few}
use Rattle.priority_pages.proofs.reading.read_priorities.Goals as goal

pub make_priorities-made-requires : goal.make_priorities-made-requires
make_priorities-made-requires g c = rows_few _ (length c.args.table.now) c.args.page c.args.bytes.now _ c.in_ok-rows.ensures.answer
