-- The page of a plan: one pair a line, by rising programme.
use Rattle.std.specs.Prelude.{ℕ, zero, suc, min, cond, ◌&&◌, List, [], ◌∷◌, ◌++◌, length, ◌==◌}
use Rattle.std.specs.List.{flat_map}
use Rattle.refusal.specs.Limits.{side}
use Rattle.refusal.specs.Counting.{within}
use Rattle.refusal.specs.Tables.{at}
use Rattle.source.specs.Pairs.{Pairs}
use Rattle.page_text.specs.declared.line.PageKind.TheVariants as kind_of
use Rattle.page_writer.specs.Texts.{title, number_line}

-- A plan is told as the slots of its programmes: under each programme its slot, or 0.
-- At most `side` programmes and slots are written.
abbrev pub plan_rows : List ℕ → ℕ
plan_rows slot_of = min (length slot_of) side

abbrev pub plan_columns : ℕ → ℕ
plan_columns slots = min slots side

-- The pair of programme i, if its slot is one of those written.
abbrev pub place_of : ℕ → List ℕ → ℕ → List (ℕ × ℕ)
place_of columns slot_of i = cond (within columns (at 0 slot_of i)) ((i, at 0 slot_of i) ∷ []) []

-- The pairs of the first n programmes.
abbrev pub places : ℕ → List ℕ → ℕ → List (ℕ × ℕ)
places columns slot_of zero = []
places columns slot_of (suc n) = places columns slot_of n ++ place_of columns slot_of (suc n)

-- The line of a pair.
abbrev pub pair_line : ℕ × ℕ → List ℕ
pair_line p = number_line p.0 (p.1 ∷ [])

-- The page with these sizes and pairs.
abbrev pub pairs_page : ℕ → ℕ → List (ℕ × ℕ) → List ℕ
pairs_page rows columns ps = title kind_of.Pairs ++ (number_line rows (columns ∷ length ps ∷ []) ++ flat_map pair_line ps)

-- The page of a plan.
abbrev pub plan_page : ℕ → List ℕ → List ℕ
plan_page slots slot_of = pairs_page (plan_rows slot_of) (plan_columns slots) (places (plan_columns slots) slot_of (plan_rows slot_of))

-- The plan as pairs: each programme with its slot.
abbrev pub plan_pairs : ℕ → List ℕ → Pairs
plan_pairs slots slot_of =
    record {
      programmes = plan_rows slot_of;
      slots = plan_columns slots;
      allowed = λ i s. within (plan_rows slot_of) i && (within (plan_columns slots) s && at 0 slot_of i == s);
    }
