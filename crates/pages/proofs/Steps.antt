-- Lemmas on the loop over the lines of a page, for any format.
use Rattle.std.proofs.Common.{◌≡◌, ℕ, ◌+◌, List, ◌∷◌, Ok, Err, Result, sym, ap, ◌∙◌, arith}
use Rattle.page_text.specs.declared.fault.Fault.{Fault}
use Rattle.page_text.specs.declared.fault.Place.{Place}
use Rattle.page_text.specs.Faults.{told}
use Rattle.page_text.specs.Lines.{lines}
use Rattle.pages.specs.Stages.{chain, given, next_line, Reading, Format, step, reads}

-- an answer that is told as an error is that error
pub given_err : {X Y E : Type 0} (f : X → Y) (r : Result X E) (e : E) → given f r ≡ Err e → r ≡ Err e
given_err f (Ok x) e h = let z : ◌≡◌ {A = ℕ} 0 1 = cc in absurd (omega arith)
given_err f (Err d) e h = let q : d ≡ e = cc in ap Err q

-- the loop: what the lines of the bytes that are left say
abbrev pub onward : {X : Type 0} → Format X → Place → Reading × X → List ℕ → Result X Fault
onward format place s bytes = reads format place.page place.line s (lines bytes)

-- a line that is refused ends it
pub onward_stops : {X : Type 0} (format : Format X) (place : Place) (s : Reading × X) (bytes l : List ℕ) (ls : List (List ℕ)) (e : Fault) → lines bytes ≡ l ∷ ls → Err e ≡ told (next_line place) (step format s l) → onward format place s bytes ≡ Err e
onward_stops format place s bytes l ls e h k =
    ap (reads format place.page place.line s) h ∙ ap (λ o. chain o (λ t. reads format place.page (place.line + 1) t ls)) (sym k)
