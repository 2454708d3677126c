use Rattle.std.proofs.Common.{◌≡◌, ◌^◌, ◌<◌, drop}
use Rattle.page_text.specs.Bytes.{digits}
use Rattle.page_text.proofs.words.whole.Given as goal

abbrev pub invariant-loop-byte : goal.invariant-loop-byte
invariant-loop-byte l = (digits l.number (drop l.byte-index l.word) ≡ digits 0 l.word) × (l.number < 10 ^ l.byte-index)
