use Rattle.std.proofs.Common.{◌*◌, vec_items, ap}
use Rattle.refusal.specs.Limits.{side}
use Rattle.source.specs.Pairs.{Pairs}
use Rattle.grid.proofs.Marks.{empty_marked}
use Rattle.grid.proofs.Grid.new.Goals as goal

pub returns-clause-pairs : goal.returns-clause-pairs
returns-clause-pairs c =
    ap {B = Pairs} (λ f. record { programmes = c.args.programmes; slots = c.args.slots; allowed = f }) (empty_marked (side * side) (vec_items c.in_ok-vec.field-0) (c.in_ok-vec.ensures.items_if_clones_equal (λ y h. h)))
