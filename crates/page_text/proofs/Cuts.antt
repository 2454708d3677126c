-- Lemmas on how a text is cut into words and lines.
use Rattle.std.proofs.Common.{◌≡◌, ℕ, suc, ◌+◌, ◌<◌, ◌≤◌, Bool, true, false, not, ltb, List, [], ◌∷◌, length, take, drop, Some, None, Option, sym, refl, ap, ◌∙◌, ⊎_elim, Bor, arith, length-drop, length-take}
use Rattle.std.specs.List.{slice_split, onto_first, position_or_len, position}
use Rattle.std.specs.Slice.{IsGetRangeResult}
use Rattle.std.specs.Option.{unwrap_or}
use Rattle.std.proofs.lemmas.List.{take_rest}
use Rattle.std.proofs.lemmas.List.Sums.{prefix_len-le-length}
use Rattle.std.proofs.lemmas.List.Splits.{slice_split-cons_yes, slice_split-cons_no}
use Rattle.std.proofs.lemmas.Bool.{cases_Bool, cond-true, cond-false, lt-ltb, le-ltb, cases_lt}
use Rattle.page_text.specs.Lines.{ended, lines}
use Rattle.page_text.specs.Bytes.{blank, feed, full, words}

-- any byte but a blank
abbrev pub ink : ℕ → Bool
ink b = not (blank b)

module _ (p : ℕ → Bool) where
  reach_yes : (b : ℕ) (bs : List ℕ) → p b ≡ true → position_or_len p (b ∷ bs) ≡ 0
  reach_yes b bs e = cond-false (not (p b)) _ _ (ap not e)

  reach_no : (b : ℕ) (bs : List ℕ) → p b ≡ false → position_or_len p (b ∷ bs) ≡ suc (position_or_len p bs)
  reach_no b bs e = omega (arith, cond-true (not (p b)) (1 + position_or_len p bs) 0 (ap not e))

  -- what follows the first piece
  abbrev others : List ℕ → List (List ℕ)
  others [] = []
  others (b ∷ bs) = slice_split p bs

  pub split_first : (s : List ℕ) → slice_split p s ≡ take (position_or_len p s) s ∷ others (drop (position_or_len p s) s)
  split_first [] = refl
  split_first (b ∷ s) =
      ⊎_elim
      (λ e. rw (slice_split-cons_yes p b s e, reach_yes b s e) refl)
      (λ e. rw (slice_split-cons_no p b s e, reach_no b s e) (ap (onto_first b) (split_first s)))
      (cases_Bool (p b))

-- where the code's search for a byte stops
module _ (p : ℕ → Bool) (s : List ℕ) where
  found : position_or_len p s < length s → position p s ≡ Some (position_or_len p s)
  found h = cond-true (ltb (position_or_len p s) (length s)) (Some (position_or_len p s)) None (lt-ltb _ _ h)

  not_found : length s ≤ position_or_len p s → position p s ≡ None
  not_found h = cond-false (ltb (position_or_len p s) (length s)) (Some (position_or_len p s)) None (le-ltb _ _ h)

  pub at_none : (r : Option ℕ) → r ≡ position p s → r ≡ None → length s ≤ position_or_len p s
  at_none r e f = ⊎_elim (λ h. let q = found h in absurd cc) (λ h. h) (cases_lt (position_or_len p s) (length s))

  pub at_some : (r : Option ℕ) (k : ℕ) → r ≡ position p s → r ≡ Some k → (k ≡ position_or_len p s) × (k < length s)
  at_some r k e f =
      ⊎_elim
      (λ h. let q = found h in let i : k ≡ position_or_len p s = cc in (i, omega arith))
      (λ h. let q = not_found h in absurd cc)
      (cases_lt (position_or_len p s) (length s))

  pub at_end : (r : Option ℕ) → r ≡ position p s → unwrap_or r (length s) ≡ position_or_len p s
  at_end r e =
      ⊎_elim
      (λ h. rw (e, found h) refl)
      (λ h. rw (e, not_found h) (omega (arith, prefix_len-le-length (λ b. not (p b)) s)))
      (cases_lt (position_or_len p s) (length s))

-- the words after the first piece are those from its end
words_others : (s : List ℕ) → full (others blank (drop (position_or_len blank s) s)) ≡ words (drop (position_or_len blank s) s)
words_others [] = refl
words_others (b ∷ s) =
    ⊎_elim
    (λ e. rw (reach_yes blank b s e) (sym (ap full (slice_split-cons_yes blank b s e))))
    (λ e. rw (reach_no blank b s e) (words_others s))
    (cases_Bool (blank b))

-- the word that a text begins with
words_first : (b : ℕ) (s : List ℕ) → blank b ≡ false → words (b ∷ s) ≡ take (position_or_len blank (b ∷ s)) (b ∷ s) ∷ words (drop (position_or_len blank (b ∷ s)) (b ∷ s))
words_first b s e =
    rw (reach_no blank b s e) (ap full (slice_split-cons_no blank b s e ∙ ap (onto_first b) (split_first blank s)) ∙ ap (λ ws. (b ∷ take (position_or_len blank s) s) ∷ ws) (words_others s))

-- a text of blanks has no words
pub words_none : (s : List ℕ) → length s ≤ position_or_len ink s → words s ≡ []
words_none [] h = refl
words_none (b ∷ s) h =
    ⊎_elim
    (λ e. let n : ink b ≡ false = ap not e in ap full (slice_split-cons_yes blank b s e) ∙ words_none s (omega (arith, reach_no ink b s n)))
    (λ e. let n : ink b ≡ true = ap not e in absurd (omega (arith, reach_yes ink b s n)))
    (cases_Bool (blank b))

-- a word is taken: the blanks before it go, and then it is cut off
pub words_next : (s t : List ℕ) → position_or_len ink s < length s → t ≡ drop (position_or_len ink s) s → words s ≡ take (position_or_len blank t) t ∷ words (drop (position_or_len blank t) t)
words_next [] t h e = absurd (omega arith)
words_next (b ∷ s) t h e =
    ⊎_elim
    (λ y. let n : ink b ≡ false = ap not y in
    let k = reach_no ink b s n in
    ap full (slice_split-cons_yes blank b s y) ∙ words_next s t (omega (arith, k)) (rw k at e))
    (λ y. let n : ink b ≡ true = ap not y in rw (e, reach_yes ink b s n) (words_first b s y))
    (cases_Bool (blank b))

-- a line is taken with its line feed
ended_more : (w s : List ℕ) → ended (w ∷ slice_split feed s) ≡ w ∷ lines s
ended_more w s = rw (split_first feed s) refl

ended_first : (w t : List ℕ) → (t ≡ [] → 0 < length w) → ended (w ∷ others feed t) ≡ w ∷ lines (drop 1 t)
ended_first [] [] f = absurd (omega (arith, f refl))
ended_first (b ∷ w) [] f = refl
ended_first w (b ∷ t) f = ended_more w t

pub lines_next : (s : List ℕ) → 0 < length s → lines s ≡ take (position_or_len feed s) s ∷ lines (drop 1 (drop (position_or_len feed s) s))
lines_next s h =
    let n = position_or_len feed s in
    let f : drop n s ≡ [] → 0 < length (take n s) = λ z. omega (arith, ap length z, length-drop n s, length-take n s) in
    ap ended (split_first feed s) ∙ ended_first (take n s) (drop n s) f

-- what follows the first byte, or all where there is none
pub after_first : (s : List ℕ) (r : Option (Bor (List ℕ))) (whole : Bor (List ℕ)) → IsGetRangeResult s 1 (length s) r → whole.now ≡ s → (unwrap_or r whole).now ≡ drop 1 s
after_first [] None whole h e = e
after_first (b ∷ s) None whole h e = absurd (⊎_elim (λ l. omega arith) (λ l. omega arith) h.0)
after_first s (Some t) whole h e = h.0.2 ∙ take_rest s 1
