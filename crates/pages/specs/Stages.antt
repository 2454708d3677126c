-- A page is read in three stages, header, size and entries: the stage decides how a line is taken.
use Rattle.std.specs.Prelude.{ℕ, ◌+◌, ◌-◌, cond, List, [], ◌∷◌, length, Ok, Err, Result, ◌==◌, nat_lt}
use Rattle.refusal.specs.declared.Refusal.{Refusal}
use Rattle.refusal.specs.declared.Refusal.TheVariants as no
use Rattle.page_text.specs.declared.fault.Fault.{Fault}
use Rattle.page_text.specs.declared.fault.Page.{Page}
use Rattle.page_text.specs.declared.fault.Place.{Place}
use Rattle.page_text.specs.declared.line.LineKind.{LineKind}
use Rattle.page_text.specs.declared.line.LineKind.TheVariants.{Blank, Comment, Text}
use Rattle.page_text.specs.declared.line.PageKind.{PageKind}
use Rattle.page_text.specs.Limits.{page_limit, line_limit}
use Rattle.page_text.specs.Faults.{told}
use Rattle.page_text.specs.Lines.{lines, line_kind, header}
use Rattle.pages.specs.declared.stages.Stage.{Stage}
use Rattle.pages.specs.declared.stages.Stage.TheVariants.{Header, Size, Entries}
use Rattle.pages.specs.declared.stages.Task.{Task}
use Rattle.pages.specs.declared.stages.Task.TheVariants as for
use Rattle.pages.specs.declared.stages.PageReader.{PageReader}

-- What follows, where nothing was refused.
abbrev pub chain : {X Y E : Type 0} → Result X E → (X → Result Y E) → Result Y E
chain (Ok x) f = f x
chain (Err e) f = Err e

-- An answer of the code, in the words of the definitions.
abbrev pub given : {X Y E : Type 0} → (X → Y) → Result X E → Result Y E
given f (Ok x) = Ok (f x)
given f (Err e) = Err e

-- Where the reading of a page stands: its stage, and how many entries are still awaited.
pub record Reading : Type 0 where
  pub stage : Stage
  pub left : ℕ

abbrev pub reading : PageReader → Reading
reading r = record { stage = r.stage; left = r.left }

-- A page begins with its header.
abbrev pub starting : Reading
starting = record { stage = Header; left = 0 }

-- The line after a place.
abbrev pub next_line : Place → Place
next_line place = record { page = place.page; line = place.line + 1 }

-- The header is of the kind wanted, or 3.
abbrev pub header_taken : PageKind → ℕ → List ℕ → Result (Task × Reading) Refusal
header_taken kind left line = cond (header kind line) (Ok (for.Skip, record { stage = Size; left = left })) (Err no.Header)

-- An entry is one of those awaited, or 9.
abbrev pub entry_taken : Reading → Result (Task × Reading) Refusal
entry_taken at = cond (at.left == 0) (Err no.EntryCount) (Ok (for.Entry, record { stage = at.stage; left = at.left - 1 }))

-- The stage and the kind of the line decide what it is for: blank lines are skipped after the header,
-- and comments before the size line.
abbrev pub taken : PageKind → Stage → LineKind → Reading → List ℕ → Result (Task × Reading) Refusal
taken kind Header any at line = header_taken kind at.left line
taken kind Size Blank at line = Ok (for.Skip, at)
taken kind Size Comment at line = Ok (for.Skip, at)
taken kind Size Text at line = Ok (for.Size, record { stage = Entries; left = at.left })
taken kind Entries Blank at line = Ok (for.Skip, at)
taken kind Entries Comment at line = entry_taken at
taken kind Entries Text at line = entry_taken at

-- The same, after 2 for a line that is too long.
abbrev pub taken_line : PageKind → Reading → List ℕ → Result (Task × Reading) Refusal
taken_line kind at line = cond (nat_lt line_limit (length line)) (Err no.LineTooLong) (taken kind at.stage (line_kind line) at line)

-- How many of the entries awaited a line is.
abbrev pub spent : Task → ℕ
spent for.Skip = 0
spent for.Size = 0
spent for.Entry = 1

-- At the page's end: the header, the size line or entries may be missing.
abbrev pub ending : {X : Type 0} → Stage → ℕ → X → Result X Refusal
ending Header left x = Err no.Header
ending Size left x = Err no.SizeLine
ending Entries left x = cond (left == 0) (Ok x) (Err no.EntryCount)

-- A format: the kind that its header names, the content before the size line, what a size line makes of it,
-- with the number of entries that follow, and what an entry line makes of it.
pub record Format (X : Type 0) : Type 0 where
  pub kind : PageKind
  pub fresh : X
  pub sized : X → List ℕ → Result (ℕ × X) Refusal
  pub entered : X → List ℕ → Result X Refusal

module _ {X : Type 0} (format : Format X) where
  -- What is done with a line that was taken.
  abbrev pub done : Task → Reading → X → List ℕ → Result (Reading × X) Refusal
  done for.Skip at x line = Ok (at, x)
  done for.Size at x line = chain (format.sized x line) (λ z. Ok (record { stage = at.stage; left = z.0 }, z.1))
  done for.Entry at x line = chain (format.entered x line) (λ y. Ok (at, y))

  -- One line.
  abbrev pub step : Reading × X → List ℕ → Result (Reading × X) Refusal
  step s line = chain (taken_line format.kind s.0 line) (λ t. done t.0 t.1 s.1 line)

  -- The lines that are left after those up to a place: the first faulty one decides.
  abbrev pub reads : Page → ℕ → Reading × X → List (List ℕ) → Result X Fault
  reads page n s [] = told (record { page = page; line = n }) (ending s.0.stage s.0.left s.1)
  reads page n s (l ∷ ls) = chain (told (record { page = page; line = n + 1 }) (step s l)) (λ t. reads page (n + 1) t ls)

  -- A page: 1 with line 0 when it is too long, and else what its lines say.
  abbrev pub read_page : Page → List ℕ → Result X Fault
  read_page page bytes = cond (nat_lt page_limit (length bytes)) (Err (record { refusal = no.PageTooLong; line = 0; page = page })) (reads page 0 (starting, format.fresh) (lines bytes))
