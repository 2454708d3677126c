use Rattle.std.proofs.Common.{◌≡◌, ◌+◌, ◌*◌, ◌≤◌, ◌++◌, length, take}
use Rattle.std.specs.List.{flat_map}
use Rattle.page_writer.specs.Texts.{text_of, spaced}
use Rattle.page_writer.proofs.PageText.push_line.Given as goal

-- The numbers up to here are written, each in at most ten bytes.
abbrev pub invariant-loop-number : goal.invariant-loop-number
invariant-loop-number l =
    (text_of l.self ≡ text_of l.initial.self ++ flat_map spaced (take l.number-index l.rest))
    × (length (text_of l.self) ≤ length (text_of l.initial.self) + 10 * l.number-index)
