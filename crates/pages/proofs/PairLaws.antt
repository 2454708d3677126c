-- A page made of pairs that fit is read as exactly those pairs.
use Rattle.std.proofs.Common.{◌≡◌, ℕ, ◌*◌, Bool, true, false, cond, ◌&&◌, ◌||◌, eqb, leb, List, [], ◌∷◌, map, length, Some, Ok, sym, refl, ap, ◌∙◌, ⊎_elim, arith}
use mathlib.Core.Path.{fun_ext}
use Rattle.std.specs.List.{AllByRecursion}
use Rattle.std.proofs.lemmas.List.{length-map}
use Rattle.std.proofs.lemmas.Bool.{cases_Bool, cond-true, cond-false, le-leb, and_from, and_right, eq-eqb, ne_eqb, eqb-true, eqb-false}
use Rattle.refusal.specs.Limits.{side}
use Rattle.refusal.specs.Counting.{within}
use Rattle.source.specs.Pairs.{Pairs, with_pair, inside, holds, empty_pairs}
use Rattle.page_text.specs.declared.fault.Page.{Page}
use Rattle.page_text.specs.Bytes.{words, numbers}
use Rattle.pages.specs.PairPages.{pair_format, pair_numbers, pairs_sizes, read_pairs}
use Rattle.pages.specs.PageLaws.{listed, Apart, ReadsPairs}
use Rattle.pages.proofs.Laws.{Leads, page_law}

-- a set with the pairs of a list put in, one after another
abbrev sown : (ℕ → ℕ → Bool) → List (ℕ × ℕ) → ℕ → ℕ → Bool
sown f [] = f
sown f (p ∷ ps) = sown (with_pair f p.0 p.1 true) ps

-- each pair is new when its turn comes
abbrev New : (ℕ → ℕ → Bool) → List (ℕ × ℕ) → Type 0
New f [] = Unit {0}
New f (p ∷ ps) = (f p.0 p.1 ≡ false) × New (with_pair f p.0 p.1 true) ps

put_or : (a b c : Bool) → (b || cond a true c) ≡ ((a || b) || c)
put_or true true c = refl
put_or true false c = refl
put_or false true c = refl
put_or false false c = refl

sown_listed : (f : ℕ → ℕ → Bool) (ps : List (ℕ × ℕ)) (i s : ℕ) → sown f ps i s ≡ (listed ps i s || f i s)
sown_listed f [] i s = refl
sown_listed f (p ∷ ps) i s = sown_listed (with_pair f p.0 p.1 true) ps i s ∙ put_or (eqb p.0 i && eqb p.1 s) (listed ps i s) (f i s)

or_false : (b : Bool) → (b || false) ≡ b
or_false true = refl
or_false false = refl

sown_none : (ps : List (ℕ × ℕ)) → sown (λ i s. false) ps ≡ listed ps
sown_none ps = fun_ext (λ i. fun_ext (λ s. sown_listed (λ j t. false) ps i s ∙ or_false (listed ps i s)))

-- pairs that are apart, and none of them in the set, are new
eqb_sym : (a b : ℕ) → eqb a b ≡ eqb b a
eqb_sym a b = ⊎_elim (λ t. t ∙ sym (eq-eqb b a (sym (eqb-true a b t)))) (λ f. f ∙ sym (ne_eqb b a (λ e. eqb-false a b f (sym e)))) (cases_Bool (eqb a b))

left_out : (a b : Bool) → (a || b) ≡ false → (a ≡ false) × (b ≡ false)
left_out true b h = absurd (let z : ◌≡◌ {A = ℕ} 0 1 = cc in omega arith)
left_out false b h = (refl, h)

still_out : (f : ℕ → ℕ → Bool) (p : ℕ × ℕ) (ps : List (ℕ × ℕ)) → listed ps p.0 p.1 ≡ false → AllByRecursion (λ q. f q.0 q.1 ≡ false) ps → AllByRecursion (λ q. with_pair f p.0 p.1 true q.0 q.1 ≡ false) ps
still_out f p [] h a = tt
still_out f p (q ∷ qs) h a =
    let o = left_out (eqb q.0 p.0 && eqb q.1 p.1) (listed qs p.0 p.1) h in
    let other : (eqb p.0 q.0 && eqb p.1 q.1) ≡ false = rw (eqb_sym p.0 q.0, eqb_sym p.1 q.1) o.0 in
    (cond-false (eqb p.0 q.0 && eqb p.1 q.1) _ _ other ∙ a.0, still_out f p qs o.1 a.1)

new_apart : (f : ℕ → ℕ → Bool) (ps : List (ℕ × ℕ)) → Apart ps → AllByRecursion (λ q. f q.0 q.1 ≡ false) ps → New f ps
new_apart f [] a o = tt
new_apart f (p ∷ ps) a o = (o.0, new_apart (with_pair f p.0 p.1 true) ps a.1 (still_out f p ps a.0 o.1))

all_false : (ps : List (ℕ × ℕ)) → AllByRecursion (λ q. false ≡ false) ps
all_false [] = tt
all_false (p ∷ ps) = (refl, all_false ps)

module _ (rows columns : ℕ) where
  abbrev pairs : (ℕ → ℕ → Bool) → Pairs
  pairs f = record { programmes = rows; slots = columns; allowed = f }

  put_one : (f : ℕ → ℕ → Bool) (i s : ℕ) (l : List ℕ) → (within rows i && within columns s) ≡ true → f i s ≡ false → numbers 2 (words l) ≡ Some (i ∷ s ∷ []) → pair_format.entered (pairs f) l ≡ Ok (pairs (with_pair f i s true))
  put_one f i s l h n e =
      ap (pair_numbers (pairs f)) e ∙ cond-true (inside (pairs f) i s) _ _ h ∙ cond-false (holds (pairs f) i s) _ _ (and_right _ _ n)

  leads : (f : ℕ → ℕ → Bool) (ps : List (ℕ × ℕ)) → AllByRecursion (λ p. (within rows p.0 && within columns p.1) ≡ true) ps → New f ps → Leads pair_format 2 (pairs f) (map (λ p. p.0 ∷ p.1 ∷ []) ps) (pairs (sown f ps))
  leads f [] a n = refl
  leads f (p ∷ ps) a n = (pairs (with_pair f p.0 p.1 true), λ l e. put_one f p.0 p.1 l a.0 n.0 e, leads (with_pair f p.0 p.1 true) ps a.1 n.1)

pub pairs_law : (page : Page) (bytes : List ℕ) → ReadsPairs bytes (read_pairs page bytes)
pairs_law page bytes rows columns ps m h =
    let sized : pairs_sizes (Some (rows ∷ columns ∷ length ps ∷ [])) ≡ Ok (length ps, empty_pairs rows columns) = cond-true ((leb rows side && leb columns side) && leb (length ps) (rows * columns)) _ _ (and_from _ _ (and_from _ _ (le-leb rows side h.few_rows) (le-leb columns side h.few_columns)) (le-leb (length ps) (rows * columns) h.few)) in
    page_law pair_format page 2 m (empty_pairs rows columns) (pairs rows columns (sown (λ i s. false) ps))
    (ap pairs_sizes m.sized.2 ∙ sized ∙ ap (λ n. Ok (n, empty_pairs rows columns)) (sym (length-map ps (λ (p : ℕ × ℕ). p.0 ∷ p.1 ∷ []))))
    (leads rows columns (λ i s. false) ps h.inner (new_apart (λ i s. false) ps h.apart (all_false ps)))
    ∙ ap (λ f. Ok (pairs rows columns f)) (sown_none ps)
