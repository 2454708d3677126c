-- Pages of pairs: sizes rows, columns and entries, then one `i j` a line. Rows are programmes, columns slots.
use Rattle.std.specs.Prelude.{ℕ, ◌*◌, true, cond, ◌&&◌, List, Some, None, Ok, Err, Option, Result, nat_le, slice_index}
use Rattle.refusal.specs.Limits.{side}
use Rattle.refusal.specs.declared.Refusal.{Refusal}
use Rattle.refusal.specs.declared.Refusal.TheVariants as no
use Rattle.source.specs.Pairs.{Pairs, inside, holds, changed, empty_pairs}
use Rattle.page_text.specs.declared.fault.Fault.{Fault}
use Rattle.page_text.specs.declared.fault.Page.{Page}
use Rattle.page_text.specs.declared.line.PageKind.TheVariants as kind_of
use Rattle.page_text.specs.Bytes.{words, numbers}
use Rattle.pages.specs.Stages.{Format, read_page}

-- Sizes within the limits, or 5: at most `side` rows and columns, and no more pairs than rows × columns.
abbrev pub pairs_limited : ℕ → ℕ → ℕ → Result (ℕ × Pairs) Refusal
pairs_limited rows columns entries = cond ((nat_le rows side && nat_le columns side) && nat_le entries (rows * columns)) (Ok (entries, empty_pairs rows columns)) (Err no.SizeLimit)

-- The sizes are three whole numbers, or 4.
abbrev pub pairs_sizes : Option (List ℕ) → Result (ℕ × Pairs) Refusal
pairs_sizes None = Err no.SizeLine
pairs_sizes (Some ns) = pairs_limited (slice_index ns 0) (slice_index ns 1) (slice_index ns 2)

-- A size line.
abbrev pub pairs_sized : List ℕ → Result (ℕ × Pairs) Refusal
pairs_sized line = pairs_sizes (numbers 3 (words line))

-- The pair is within the sizes, or 7, and new, or 8.
abbrev pub pair_put : Pairs → ℕ → ℕ → Result Pairs Refusal
pair_put p i s = cond (inside p i s) (cond (holds p i s) (Err no.PairTwice) (Ok (changed p i s true))) (Err no.EntryRange)

-- The entry is two whole numbers, or 6.
abbrev pub pair_numbers : Pairs → Option (List ℕ) → Result Pairs Refusal
pair_numbers p None = Err no.EntryLine
pair_numbers p (Some ns) = pair_put p (slice_index ns 0) (slice_index ns 1)

-- An entry line.
abbrev pub pair_entered : Pairs → List ℕ → Result Pairs Refusal
pair_entered p line = pair_numbers p (numbers 2 (words line))

-- The format of pairs.
abbrev pub pair_format : Format Pairs
pair_format = record { kind = kind_of.Pairs; fresh = empty_pairs 0 0; sized = λ p line. pairs_sized line; entered = pair_entered }

-- What a page of pairs says, or its fault.
abbrev pub read_pairs : Page → List ℕ → Result Pairs Fault
read_pairs = read_page pair_format

-- What a read leaves in the grid: the pairs, or nothing, 0 by 0.
abbrev pub pairs_left : Result Pairs Fault → Pairs
pairs_left (Ok p) = p
pairs_left (Err fault) = empty_pairs 0 0
