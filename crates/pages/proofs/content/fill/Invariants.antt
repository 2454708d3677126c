use Rattle.std.proofs.Common.{◌≡◌, ◌+◌, ◌≤◌, length}
use Rattle.page_text.specs.Limits.{page_limit}
use Rattle.pages.specs.Stages.{reading}
use Rattle.pages.proofs.Steps.{onward}
use Rattle.pages.proofs.content.fill.Given as goal

-- What the lines that are left say does not change, and the content has room for the entries awaited.
abbrev pub invariant-loop-line : goal.invariant-loop-line
invariant-loop-line g l =
    let of = g.C.Content in
    let format = of.format (of.fixed l.initial.content) in
    record {
      says : onward format l.reader.place (reading l.reader, of.shown l.content) l.line-iterator.rest.now ≡ onward format l.initial.reader.place (reading l.initial.reader, of.shown l.initial.content) l.bytes;
      lines : l.reader.place.line + length l.line-iterator.rest.now ≤ page_limit;
      kind : l.reader.kind ≡ format.kind;
      room : l.reader.left ≤ of.room l.content;
      fixed : of.fixed l.content ≡ of.fixed l.initial.content;
    }
