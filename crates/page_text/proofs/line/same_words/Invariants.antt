use Rattle.std.proofs.Common.{◌≡◌}
use Rattle.page_text.specs.Bytes.{words}
use Rattle.page_text.specs.Lines.{alike}
use Rattle.page_text.proofs.line.same_words.Given as goal

-- the answer stays the same as words are taken from both
abbrev pub invariant-loop-word : goal.invariant-loop-word
invariant-loop-word l = alike (words l.initial.have.rest.now) (words l.want) ≡ alike (words l.have.rest.now) (words l.word-iterator.rest.now)
