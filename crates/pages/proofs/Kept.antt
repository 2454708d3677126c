-- What a format keeps of its content through the size line and the entries holds of what a page says.
use Rattle.std.proofs.Common.{◌≡◌, ℕ, ◌+◌, ◌*◌, ◌≤◌, ◌&&◌, eqb, ltb, leb, List, [], ◌∷◌, length, get_or, Some, None, Ok, Err, Option, Result, sym, refl, ap, ◌∙◌, subst, ⊎_elim, arith}
use Rattle.std.proofs.lemmas.Bool.{cases_Bool, cond-true, cond-false, and_parts, leb-true}
use Rattle.refusal.specs.Limits.{side}
use Rattle.refusal.specs.declared.Refusal.{Refusal}
use Rattle.page_text.specs.declared.fault.Fault.{Fault}
use Rattle.page_text.specs.declared.fault.Page.{Page}
use Rattle.page_text.specs.declared.fault.Place.{Place}
use Rattle.page_text.specs.Limits.{page_limit}
use Rattle.page_text.specs.Faults.{told}
use Rattle.page_text.specs.Bytes.{words, numbers}
use Rattle.page_text.specs.Lines.{lines}
use Rattle.pages.specs.declared.stages.Stage.{Stage}
use Rattle.pages.specs.declared.stages.Stage.TheVariants.{Header, Size, Entries}
use Rattle.pages.specs.declared.stages.Task.{Task}
use Rattle.pages.specs.declared.stages.Task.TheVariants as for
use Rattle.pages.specs.declared.table_pages.Columns.{Columns}
use Rattle.pages.specs.Stages.{chain, given, Reading, starting, taken_line, ending, Format, done, step, reads, read_page}
use Rattle.pages.specs.TablePages.{Sheet, width, begun, value_put, table_format, table_limited, table_numbers, table_sizes, value_of, read_table}

different : {P : Type 0} {X E : Type 0} (x : X) (e : E) → ◌≡◌ {A = Result X E} (Err e) (Ok x) → P
different x e h = let z : ◌≡◌ {A = ℕ} 0 1 = cc in absurd (omega arith)

told_ok : {X : Type 0} (place : Place) (o : Result X Refusal) (x : X) → told place o ≡ Ok x → o ≡ Ok x
told_ok place (Ok y) x h = let e : y ≡ x = cc in ap Ok e
told_ok place (Err w) x h = different x _ h

chain_ok : {A B E : Type 0} (o : Result A E) (g : A → Result B E) (y : B) → chain o g ≡ Ok y → (x : A) × (o ≡ Ok x) × (g x ≡ Ok y)
chain_ok (Ok x) g y h = (x, refl, h)
chain_ok (Err e) g y h = different y e h

ending_ok : {X : Type 0} (stage : Stage) (left : ℕ) (x y : X) → ending stage left x ≡ Ok y → x ≡ y
ending_ok Header left x y h = different y _ h
ending_ok Size left x y h = different y _ h
ending_ok Entries left x y h =
    ⊎_elim
    (λ e. let k = sym (cond-true (eqb left 0) (Ok x) _ e) ∙ h in let q : x ≡ y = cc in q)
    (λ e. different y _ (sym (cond-false (eqb left 0) (Ok x) _ e) ∙ h))
    (cases_Bool (eqb left 0))

module _ {X : Type 0} (f : Format X) (P : X → Type 0) (sized : (x : X) (l : List ℕ) (z : ℕ × X) → P x → f.sized x l ≡ Ok z → P z.1) (entered : (x : X) (l : List ℕ) (y : X) → P x → f.entered x l ≡ Ok y → P y) where
  done_keeps : (task : Task) (at : Reading) (x : X) (l : List ℕ) (t : Reading × X) → P x → done f task at x l ≡ Ok t → P t.1
  done_keeps for.Skip at x l t p h = let e : x ≡ t.1 = cc in subst P e p
  done_keeps for.Size at x l t p h =
      let c = chain_ok (f.sized x l) _ t h in
      let k = c.2 in
      let e : c.0.1 ≡ t.1 = cc in
      subst P e (sized x l c.0 p c.1)
  done_keeps for.Entry at x l t p h =
      let c = chain_ok (f.entered x l) _ t h in
      let k = c.2 in
      let e : c.0 ≡ t.1 = cc in
      subst P e (entered x l c.0 p c.1)

  step_keeps : (s : Reading × X) (l : List ℕ) (t : Reading × X) → P s.1 → step f s l ≡ Ok t → P t.1
  step_keeps s l t p h = let c = chain_ok (taken_line f.kind s.0 l) _ t h in done_keeps c.0.0 c.0.1 s.1 l t p c.2

  reads_keep : (page : Page) (n : ℕ) (s : Reading × X) (ls : List (List ℕ)) (x : X) → P s.1 → reads f page n s ls ≡ Ok x → P x
  reads_keep page n s [] x p h = subst P (ending_ok s.0.stage s.0.left s.1 x (told_ok _ _ x h)) p
  reads_keep page n s (l ∷ ls) x p h =
      let c = chain_ok (told (record { page = page; line = n + 1 }) (step f s l)) _ x h in
      reads_keep page (n + 1) c.0 ls x (step_keeps s l c.0 p (told_ok _ _ c.0 c.1)) c.2

  pub page_keeps : (page : Page) (bytes : List ℕ) (x : X) → P f.fresh → read_page f page bytes ≡ Ok x → P x
  page_keeps page bytes x p h =
      ⊎_elim
      (λ e. different x _ (sym (cond-true (ltb page_limit (length bytes)) _ _ e) ∙ h))
      (λ e. reads_keep page 0 (starting, f.fresh) (lines bytes) x p (sym (cond-false (ltb page_limit (length bytes)) _ _ e) ∙ h))
      (cases_Bool (ltb page_limit (length bytes)))

-- a table that is read has few rows
abbrev Few : Sheet → Type 0
Few sheet = sheet.rows ≤ 2 * side

limited_few : (want room rows columns : ℕ) (z : ℕ × ℕ) → table_limited want room rows columns ≡ Ok z → z.1 ≤ 2 * side
limited_few want room rows columns z h =
    ⊎_elim
    (λ e. ⊎_elim
    (λ k. let q = sym (cond-true (leb (rows * columns) room) _ _ k) ∙ sym (cond-true (leb rows (2 * side) && eqb columns want) _ _ e) ∙ h in
    let r : rows ≡ z.1 = cc in
    omega (arith, leb-true rows (2 * side) (and_parts (leb rows (2 * side)) (eqb columns want) e).0))
    (λ k. different z _ (sym (cond-false (leb (rows * columns) room) _ _ k) ∙ sym (cond-true (leb rows (2 * side) && eqb columns want) _ _ e) ∙ h))
    (cases_Bool (leb (rows * columns) room)))
    (λ e. different z _ (sym (cond-false (leb rows (2 * side) && eqb columns want) _ _ e) ∙ h))
    (cases_Bool (leb rows (2 * side) && eqb columns want))

numbers_few : (want room : ℕ) (o : Option (List ℕ)) (z : ℕ × ℕ) → table_numbers want room o ≡ Ok z → z.1 ≤ 2 * side
numbers_few want room None z h = different z _ h
numbers_few want room (Some ns) z h = limited_few want room (get_or ns 0 0) (get_or ns 1 0) z h

sized_few : (columns : Columns) (room : ℕ) (x : Sheet) (l : List ℕ) (z : ℕ × Sheet) → Few x → (table_format columns room).sized x l ≡ Ok z → Few z.1
sized_few columns room x l z p h =
    let c = chain_ok (table_sizes (width columns) (length x.values) l) _ z h in
    let k = c.2 in
    let e : begun x c.0.1 ≡ z.1 = cc in
    subst Few e (numbers_few (width columns) (length x.values) (numbers 2 (words l)) c.0 c.1)

entered_few : (columns : Columns) (room : ℕ) (x : Sheet) (l : List ℕ) (y : Sheet) → Few x → (table_format columns room).entered x l ≡ Ok y → Few y
entered_few columns room x l y p h =
    let c = chain_ok (value_of l) _ y h in
    let k = c.2 in
    let e : value_put x c.0 ≡ y = cc in
    subst Few e p

-- what a caller of `read_table` knows of the rows
pub rows_few : (columns : Columns) (room : ℕ) (page : Page) (bytes : List ℕ) (rows : ℕ) → Ok rows ≡ given (λ sheet. sheet.rows) (read_table columns room page bytes) → rows ≤ 2 * side
rows_few columns room page bytes rows e = told_rows (read_table columns room page bytes) refl e
  where
    told_rows : (o : Result Sheet Fault) → read_table columns room page bytes ≡ o → Ok rows ≡ given (λ sheet. sheet.rows) o → rows ≤ 2 * side
    told_rows (Ok sheet) h k = let q : rows ≡ sheet.rows = cc in omega (arith, page_keeps (table_format columns room) Few (sized_few columns room) (entered_few columns room) page bytes sheet (omega arith) h)
    told_rows (Err w) h k = different rows w (sym k)
