use Rattle.std.proofs.Common.{◌≡◌, ◌+◌, ◌*◌, ◌≤◌, ◌++◌, length, take}
use Rattle.std.specs.List.{flat_map}
use Rattle.page_writer.specs.Texts.{text_of}
use Rattle.page_writer.specs.TablePage.{value_line}
use Rattle.page_writer.proofs.PageText.push_values.Given as goal

-- The values up to here are written, each in at most ten bytes.
abbrev pub invariant-loop-value : goal.invariant-loop-value
invariant-loop-value l =
    (text_of l.self ≡ text_of l.initial.self ++ flat_map value_line (take l.value-index l.values))
    × (length (text_of l.self) ≤ length (text_of l.initial.self) + 10 * l.value-index)
