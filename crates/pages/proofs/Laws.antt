-- A page made as the format says is read as its entries, and the first faulty line decides: for any format.
use Rattle.std.proofs.Common.{◌≡◌, ℕ, ◌+◌, ◌-◌, ◌≤◌, false, eqb, ltb, List, [], ◌∷◌, ◌++◌, length, Some, Ok, Err, Result, sym, refl, ap, ◌∙◌, ⊎_elim, add-zero, arith}
use Rattle.std.specs.List.{AllByRecursion}
use Rattle.std.proofs.lemmas.Bool.{cond-true, cond-false, le-ltb, eq-eqb, ne_eqb}
use Rattle.refusal.specs.declared.Refusal.{Refusal}
use Rattle.page_text.specs.declared.fault.Fault.{Fault}
use Rattle.page_text.specs.declared.fault.Page.{Page}
use Rattle.page_text.specs.Limits.{page_limit, line_limit}
use Rattle.page_text.specs.Faults.{told}
use Rattle.page_text.specs.Bytes.{words, numbers}
use Rattle.page_text.specs.Lines.{lines, line_kind, header}
use Rattle.pages.specs.declared.stages.Stage.TheVariants.{Size, Entries}
use Rattle.pages.specs.declared.stages.Task.{Task}
use Rattle.pages.specs.declared.stages.Task.TheVariants as for
use Rattle.pages.specs.Stages.{chain, given, Reading, starting, taken, Format, done, step, reads, read_page}
use Rattle.pages.specs.PageLaws.{Short, Passed, Says, none, skip, entry, MadeOf, runs, FirstFault}
use Rattle.pages.proofs.Steps.{given_err}

module _ {X : Type 0} (f : Format X) where
  -- what a short line does, by what it is taken for
  step_taken : (at next : Reading) (x : X) (l : List ℕ) (task : Task) → Short l → taken f.kind at.stage (line_kind l) at l ≡ Ok (task, next) → step f (at, x) l ≡ done f task next x l
  step_taken at next x l task h e =
      ap (λ o. chain o (λ t. done f t.0 t.1 x l)) (cond-false (ltb line_limit (length l)) _ _ (le-ltb line_limit (length l) h) ∙ e)

  -- a line that is taken well
  onward : (page : Page) (n : ℕ) (s t : Reading × X) (l : List ℕ) (ls : List (List ℕ)) → step f s l ≡ Ok t → reads f page n s (l ∷ ls) ≡ reads f page (n + 1) t ls
  onward page n s t l ls e = ap (λ o. chain (told (record { page = page; line = n + 1 }) o) (λ u. reads f page (n + 1) u ls)) e

  -- entries of k numbers that lead the content from x to z, one by one
  abbrev pub Leads : ℕ → X → List (List ℕ) → X → Type 0
  Leads k x [] z = x ≡ z
  Leads k x (e ∷ es) z = (y : X) × ((l : List ℕ) → numbers k (words l) ≡ Some e → f.entered x l ≡ Ok y) × Leads k y es z

  abbrev awaiting : ℕ → Reading
  awaiting n = record { stage = Entries; left = n }

  entries_law : (page : Page) (k : ℕ) {ls es : List (List ℕ)} → Says k ls es → (n left : ℕ) (x z : X) → left ≡ length es → Leads k x es z → reads f page n (awaiting left, x) ls ≡ Ok z
  entries_law page k none n left x z c h = ap (told (record { page = page; line = n })) (cond-true (eqb left 0) _ _ (eq-eqb left 0 c)) ∙ ap Ok h
  entries_law page k (skip {l} {ls} h b y) n left x z c t =
      onward page n (awaiting left, x) (awaiting left, x) l ls (step_taken (awaiting left) (awaiting left) x l for.Skip h (ap (λ d. taken f.kind Entries d (awaiting left) l) b)) ∙ entries_law page k y (n + 1) left x z c t
  entries_law page k (entry {l} {e} {ls} {es} h b w y) n left x z c t =
      let some : eqb left 0 ≡ false = ne_eqb left 0 (λ q. omega arith) in
      onward page n (awaiting left, x) (awaiting (left - 1), t.0) l ls
      (step_taken (awaiting left) (awaiting (left - 1)) x l for.Entry h (ap (λ d. taken f.kind Entries d (awaiting left) l) b ∙ cond-false (eqb left 0) _ _ some)
      ∙ ap (λ o. chain o (λ u. Ok (awaiting (left - 1), u))) (t.1 l w))
      ∙ entries_law page k y (n + 1) (left - 1) t.0 z (omega arith) t.2

  -- lines before the size line
  abbrev at_size : Reading
  at_size = record { stage = Size; left = 0 }

  notes_law : (page : Page) (n : ℕ) (x : X) (cs ls : List (List ℕ)) → AllByRecursion Passed cs → reads f page n (at_size, x) (cs ++ ls) ≡ reads f page (n + length cs) (at_size, x) ls
  notes_law page n x [] ls a = ap (λ m. reads f page m (at_size, x) ls) (sym (add-zero n))
  notes_law page n x (c ∷ cs) ls a =
      onward page n (at_size, x) (at_size, x) c (cs ++ ls) (step_taken at_size at_size x c for.Skip a.0.0 (⊎_elim (λ b. ap (λ d. taken f.kind Size d at_size c) b) (λ b. ap (λ d. taken f.kind Size d at_size c) b) a.0.1))
      ∙ notes_law page (n + 1) x cs ls a.1
      ∙ ap (λ m. reads f page m (at_size, x) ls) (omega arith)

  -- a page made as the format says
  pub page_law : (page : Page) (k : ℕ) {bytes sizes : List ℕ} {es : List (List ℕ)} (m : MadeOf f.kind k bytes sizes es) (x z : X) → f.sized f.fresh m.size ≡ Ok (length es, x) → Leads k x es z → read_page f page bytes ≡ Ok z
  page_law page k {bytes} {sizes} {es} m x z s t =
      let n = 0 + 1 + length m.notes in
      cond-false (ltb page_limit (length bytes)) _ _ (le-ltb page_limit (length bytes) m.short)
      ∙ ap (reads f page 0 (starting, f.fresh)) m.is
      ∙ onward page 0 (starting, f.fresh) (at_size, f.fresh) m.top (m.notes ++ m.size ∷ m.rest) (step_taken starting at_size f.fresh m.top for.Skip m.headed.0 (cond-true (header f.kind m.top) _ _ m.headed.1))
      ∙ notes_law page (0 + 1) f.fresh m.notes (m.size ∷ m.rest) m.noted
      ∙ onward page n (at_size, f.fresh) (awaiting (length es), x) m.size m.rest
      (step_taken at_size (awaiting 0) f.fresh m.size for.Size m.sized.0 (ap (λ d. taken f.kind Size d at_size m.size) m.sized.1) ∙ ap (λ o. chain o (λ u. Ok (awaiting u.0, u.1))) s)
      ∙ entries_law page k m.said (n + 1) (length es) x z refl t

  -- the first faulty line decides
  chain_ok : {A B E : Type 0} (o : Result A E) (g : A → Result B E) (y : B) → chain o g ≡ Ok y → (x : A) × (o ≡ Ok x) × (g x ≡ Ok y)
  chain_ok (Ok x) g y h = (x, refl, h)
  chain_ok (Err e) g y h = let z : ◌≡◌ {A = ℕ} 0 1 = cc in absurd (omega arith)

  fault_after : (page : Page) (s t : Reading × X) (before after : List (List ℕ)) (l : List ℕ) (w : Refusal) (n : ℕ) → runs f s before ≡ Ok t → step f t l ≡ Err w → reads f page n s (before ++ l ∷ after) ≡ Err (record { refusal = w; line = n + length before + 1; page = page })
  fault_after page s t [] after l w n h e =
      let same : s ≡ t = cc in
      ap (λ u. chain (told (record { page = page; line = n + 1 }) (step f u l)) (λ v. reads f page (n + 1) v after)) same ∙ ap (λ o. chain (told (record { page = page; line = n + 1 }) o) (λ v. reads f page (n + 1) v after)) e ∙ ap (λ m. Err (record { refusal = w; line = m + 1; page = page })) (sym (add-zero n))
  fault_after page s t (k ∷ before) after l w n h e =
      let c = chain_ok (step f s k) (λ v. runs f v before) t h in
      onward page n s c.0 k (before ++ l ∷ after) c.1 ∙ fault_after page c.0 t before after l w (n + 1) c.2 e ∙ ap (λ m. Err (record { refusal = w; line = m + 1; page = page })) (omega arith)

  pub first_fault : (page : Page) (bytes : List ℕ) (before after : List (List ℕ)) (l : List ℕ) (s : Reading × X) (w : Refusal) → length bytes ≤ page_limit → lines bytes ≡ before ++ l ∷ after → runs f (starting, f.fresh) before ≡ Ok s → step f s l ≡ Err w → read_page f page bytes ≡ Err (record { refusal = w; line = length before + 1; page = page })
  first_fault page bytes before after l s w h i r e =
      cond-false (ltb page_limit (length bytes)) _ _ (le-ltb page_limit (length bytes) h) ∙ ap (reads f page 0 (starting, f.fresh)) i ∙ fault_after page (starting, f.fresh) s before after l w 0 r e ∙ ap (λ m. Err (record { refusal = w; line = m + 1; page = page })) (omega arith)

  -- the same, of an answer that is what the page says
  pub answered_first : (page : Page) (bytes : List ℕ) (r : Result (Unit {0}) Fault) (x : X) → given (λ _. x) r ≡ read_page f page bytes → FirstFault f page bytes r
  answered_first page bytes r x e before after l s w h i t k = given_err (λ _. x) r _ (e ∙ first_fault page bytes before after l s w h i t k)
