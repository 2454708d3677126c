-- A page made of values that fit is read as exactly those values, with zeros after them.
use Rattle.std.proofs.Common.{◌≡◌, ℕ, suc, ◌+◌, ◌-◌, ◌*◌, ◌<◌, ◌≤◌, ◌&&◌, eqb, leb, List, [], ◌∷◌, ◌++◌, map, length, set, replicate, Some, Ok, Result, sym, refl, ap, ◌∙◌, append_assoc, append-nil, arith}
use native.Mathlib.Nat.{sub-zero}
use lib.ListN.{length-replicate}
use Rattle.std.specs.List.{AllByRecursion}
use Rattle.std.proofs.lemmas.List.{length-map, length_push, set_at}
use Rattle.std.proofs.lemmas.Bool.{cond-true, le-leb, eq-eqb, and_from}
use Rattle.refusal.specs.Limits.{side}
use Rattle.page_text.specs.declared.fault.Fault.{Fault}
use Rattle.page_text.specs.declared.fault.Page.{Page}
use Rattle.page_text.specs.Bytes.{words, numbers}
use Rattle.pages.specs.declared.table_pages.Columns.{Columns}
use Rattle.pages.specs.Stages.{chain, given}
use Rattle.pages.specs.TablePages.{Sheet, width, begun, value_put, table_format, table_numbers, table_limited, value_numbers, read_table, table_left}
use Rattle.pages.specs.PageLaws.{padded, ValuesFit, ReadsTable, MadeOf}
use Rattle.page_text.specs.declared.line.PageKind.TheVariants as kind_of
use Rattle.pages.proofs.Laws.{Leads, page_law}

module _ (columns : Columns) (room rows : ℕ) where
  -- the values us are read
  abbrev reached : List ℕ → Sheet
  reached us = record { rows = rows; filled = length us; values = padded room us }

  put_next : (us : List ℕ) (v : ℕ) → length us < room → set (padded room us) (length us) v ≡ padded room (us ++ v ∷ [])
  put_next us v h =
      let m : room - length us ≡ suc (room - length (us ++ v ∷ [])) = omega (arith, length_push us v) in
      ap (λ k. set (us ++ replicate k 0) (length us) v) m ∙ set_at us 0 (replicate (room - length (us ++ v ∷ [])) 0) v (length us) refl ∙ sym (append_assoc us (v ∷ []) (replicate (room - length (us ++ v ∷ [])) 0))

  put_value : (us : List ℕ) (v : ℕ) (l : List ℕ) → length us < room → v ≤ 65535 → numbers 1 (words l) ≡ Some (v ∷ []) → (table_format columns room).entered (reached us) l ≡ Ok (reached (us ++ v ∷ []))
  put_value us v l h k e =
      ap (λ o. chain (value_numbers o) (λ x. Ok (value_put (reached us) x))) e
      ∙ ap (λ o. chain o (λ x. Ok (value_put (reached us) x))) (cond-true (leb v 65535) _ _ (le-leb v 65535 k))
      ∙ ap (λ (n : ℕ). Ok (record { rows = rows; filled = n; values = set (padded room us) (length us) v })) (sym (length_push us v))
      ∙ ap (λ (vs : List ℕ). Ok (record { rows = rows; filled = length (us ++ v ∷ []); values = vs })) (put_next us v h)

  leads : (us vs : List ℕ) → length us + length vs ≤ room → AllByRecursion (λ v. v ≤ 65535) vs → Leads (table_format columns room) 1 (reached us) (map (λ v. v ∷ []) vs) (reached (us ++ vs))
  leads us [] h a = ap reached (sym (append-nil us))
  leads us (v ∷ vs) h a =
      (reached (us ++ v ∷ []), λ l e. put_value us v l (omega arith) a.0 e, rw (← append_assoc us (v ∷ []) vs) (leads (us ++ v ∷ []) vs (omega (arith, length_push us v)) a.1))

pub values_law : (columns : Columns) (room : ℕ) (page : Page) (bytes : List ℕ) (rows : ℕ) (vs : List ℕ) → MadeOf kind_of.Table 1 bytes (rows ∷ width columns ∷ []) (map (λ v. v ∷ []) vs) → ValuesFit rows (width columns) room vs → read_table columns room page bytes ≡ Ok (record { rows = rows; filled = length vs; values = padded room vs })
values_law columns room page bytes rows vs m h =
    let w = width columns in
    let zeros : List ℕ = replicate room 0 in
    let fresh : Sheet = record { rows = 0; filled = 0; values = zeros } in
    let long : length zeros ≡ room = length-replicate room 0 in
    let sizes : table_limited w (length zeros) rows w ≡ Ok (rows * w, rows) = cond-true (leb rows (2 * side) && eqb w w) _ _ (and_from _ _ (le-leb rows (2 * side) h.few_rows) (eq-eqb w w refl)) ∙ cond-true (leb (rows * w) (length zeros)) _ _ (le-leb (rows * w) (length zeros) (omega (arith, h.fit))) in
    let none : zeros ≡ padded room [] = ap (λ k. replicate k 0) (sym (sub-zero room)) in
    page_law (table_format columns room) page 1 m (reached columns room rows []) (reached columns room rows vs)
    (ap (λ o. chain (table_numbers w (length zeros) o) (λ z. Ok (z.0, begun fresh z.1))) m.sized.2 ∙ ap (λ o. chain o (λ z. Ok (z.0, begun fresh z.1))) sizes
    ∙ ap (λ (n : ℕ). Ok (n, record { rows = rows; filled = 0; values = zeros })) (sym h.all ∙ sym (length-map vs (λ (v : ℕ). v ∷ [])))
    ∙ ap (λ (us : List ℕ). Ok (length (map (λ (v : ℕ). v ∷ []) vs), record { rows = rows; filled = 0; values = us })) none)
    (leads columns room rows [] vs (omega (arith, h.all, h.fit)) h.small)

-- the same, of an answer and a table that are what the page says
pub table_entries : (columns : Columns) (room : ℕ) (page : Page) (bytes : List ℕ) (r : Result ℕ Fault) → r ≡ given (λ sheet. sheet.rows) (read_table columns room page bytes) → (table : List ℕ) → table ≡ table_left room (read_table columns room page bytes) → ReadsTable columns room bytes r table
table_entries columns room page bytes r e table t rows vs m h =
    let v = values_law columns room page bytes rows vs m h in
    (e ∙ ap (given (λ (sheet : Sheet). sheet.rows)) v, t ∙ ap (table_left room) v)
