use Rattle.std.proofs.Common.{◌≡◌}
use Rattle.page_text.specs.Bytes.{words, following}
use Rattle.page_text.proofs.words.after_name.Given as goal

-- what follows stays the same as words are taken from both
abbrev pub invariant-loop-word : goal.invariant-loop-word
invariant-loop-word l = following (words l.name) (words l.line) ≡ following (words l.word-iterator.rest.now) (words l.have.rest.now)
