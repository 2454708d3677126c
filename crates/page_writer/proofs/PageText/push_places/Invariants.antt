use Rattle.std.proofs.Common.{◌≡◌, ◌+◌, ◌*◌, ◌≤◌, ◌++◌, length}
use Rattle.std.specs.List.{flat_map}
use Rattle.page_writer.specs.Texts.{text_of}
use Rattle.page_writer.specs.PlanPage.{places, pair_line}
use Rattle.page_writer.proofs.PageText.push_places.Given as goal

-- The programmes up to here are written, each in at most twenty bytes.
abbrev pub invariant-loop-i : goal.invariant-loop-i
invariant-loop-i l =
    (text_of l.self ≡ text_of l.initial.self ++ flat_map pair_line (places l.columns l.slot_of l.i))
    × (length (text_of l.self) ≤ length (text_of l.initial.self) + 20 * l.i)
