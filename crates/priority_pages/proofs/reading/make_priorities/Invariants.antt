use Rattle.std.proofs.Common.{◌≡◌, ◌+◌, ◌*◌, ◌≤◌, vec_items, vec_len, vec_capacity}
use Rattle.refusal.specs.Limits.{side}
use Rattle.refusal.specs.Tables.{at}
use Rattle.priority_pages.proofs.Rows.{Made}
use Rattle.priority_pages.proofs.reading.make_priorities.Given as goal

-- The rows before this one are made, and there is room for all.
abbrev pub invariant-loop-number : goal.invariant-loop-number
invariant-loop-number g l =
    let of = g.P.PagePriority in
    record {
      made : Made of.made_of of.fits (λ i. of.numbers (at 0 l.table i) (at 0 l.table (l.rows + i))) (vec_len l.priorities) (vec_items l.priorities);
      next : l.number ≡ vec_len l.priorities + 1;
      last : l.number ≤ l.rows + 1;
      room : 2 * side ≤ vec_capacity l.priorities;
    }
