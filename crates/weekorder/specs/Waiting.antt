-- The lines of a waiting list.
use Rattle.std.specs.Prelude.{ℕ, List, Some, None, Option, slice_index}
use Rattle.refusal.specs.Refusals.{first_refusal}
use Rattle.priority.specs.Kinds.{house_refusals}

-- A line that is not two whole numbers is refused with 6, numbers outside the house kind with 11.
abbrev pub line_refusal : Option (List ℕ) → Option ℕ
line_refusal None = Some 6
line_refusal (Some numbers) = first_refusal (house_refusals (slice_index numbers 0) (slice_index numbers 1))

-- The class and the weeks of a line that is accepted.
abbrev pub line_value : Option (List ℕ) → ℕ × ℕ
line_value None = (0, 0)
line_value (Some numbers) = (slice_index numbers 0, slice_index numbers 1)
