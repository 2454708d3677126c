use Rattle.std.proofs.Common.{◌≡◌, ◌*◌, length, set, vec_items, sym, ap, ◌∙◌, arith}
use Rattle.refusal.specs.Limits.{side}
use Rattle.source.specs.Pairs.{Pairs}
use Rattle.grid.specs.GridPairs.{marked, grid_pairs}
use Rattle.grid.proofs.Marks.{mark_set, inside_cell}
use Rattle.grid.proofs.Grid.mark.Goals as goal

pub returns-clause-pairs : goal.returns-clause-pairs
returns-clause-pairs c =
    let grid = c.args.self.now in
    let cells = vec_items grid.cells in
    let len : length cells ≡ side * side = omega (arith, grid.cells.ok.0, grid.room) in
    let cell = inside_cell (grid_pairs grid) c.args.programme c.args.slot grid.counts.0 grid.counts.1 (sym c.if-not-is_inside.ensures) in
    ap {B = Pairs} (λ f. record { programmes = grid.programmes; slots = grid.slots; allowed = f })
    (ap (λ k. marked (set cells k c.args.allowed)) c.place.ensures.place ∙ mark_set cells c.args.programme c.args.slot c.args.allowed cell len)
