-- The lines that the operator is told.
use Rattle.std.specs.Prelude.{ℕ, cond, List, ◌++◌, Some, None, codes, decimal, Option}
use Rattle.std.specs.List.{flat_map}
use Rattle.refusal.specs.Refusals.{number_of}
use Rattle.desk.specs.Told.{Told, done, slot, programme, digit, tally, certificate, verdict, page, refused, not_offered}
use Rattle.desk_text.specs.declared.commands.Unread.{Unread}
use Rattle.desk_text.specs.declared.commands.Unread.TheVariants as unread

-- A word and a number.
abbrev pub numbered : List ℕ → ℕ → List ℕ
numbered word n = word ++ (codes " " ++ decimal n)

-- A programme or a slot by its number, or that there is none.
abbrev pub member_line : List ℕ → Option ℕ → List ℕ
member_line word None = codes "no " ++ word
member_line word (Some n) = numbered word n

-- A number after a space.
abbrev pub spaced : ℕ → List ℕ
spaced n = codes " " ++ decimal n

-- The entries of a certificate.
abbrev pub certificate_line : List ℕ → List ℕ
certificate_line entries = codes "certificate" ++ flat_map spaced entries

-- The two numbers of a tally.
abbrev pub tally_line : ℕ × ℕ → List ℕ
tally_line counts = codes "tally " ++ (decimal counts.0 ++ (codes " " ++ decimal counts.1))

-- The line of an answer, without its line feed.
abbrev pub answer_line : Told → List ℕ
answer_line done = codes "done"
answer_line (slot s) = member_line (codes "slot") s
answer_line (programme i) = member_line (codes "programme") i
answer_line (digit n) = numbered (codes "digit") n
answer_line (tally counts) = tally_line counts
answer_line (certificate entries) = certificate_line entries
answer_line (verdict passed) = cond passed (codes "accepted") (codes "rejected")
answer_line (page text) = codes "page"
answer_line (refused n) = numbered (codes "refused") n
answer_line not_offered = codes "not offered"

-- What is told for a line that gives no command.
abbrev pub unread_line : Unread → List ℕ
unread_line (unread.Refused refusal) = numbered (codes "refused") (number_of refusal)
unread_line unread.NotUnderstood = codes "not understood"
