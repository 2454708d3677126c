use Rattle.std.proofs.Common.{refl}
use Rattle.desk_text.proofs.calling.call_of.Goals as goal

pub returns-in_ok-table-in-Certificate : goal.returns-in_ok-table-in-Certificate
returns-in_ok-table-in-Certificate g c =
    rw c.in-Certificate.is (c.in_ok-table-in-Certificate.table, refl, c.in_ok-table-in-Certificate.ensures.items_if_clones_equal (λ y e. e))
