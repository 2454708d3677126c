-- A written line is read back: its words, its numbers, its kind.
use Rattle.std.proofs.Common.{◌≡◌, ℕ, ◌+◌, ◌-◌, ◌*◌, ◌^◌, ◌<◌, ◌≤◌, Bool, true, false, not, ◌&&◌, eqb, leb, List, [], ◌∷◌, ◌++◌, map, length, get_or, Some, decimal, sym, refl, ap, ◌∙◌, append_assoc, append-nil, arith, length-append, rules}
use Rattle.std.specs.List.{flat_map, AllByRecursion, slice_split, onto_first}
use Rattle.std.proofs.lemmas.List.Splits.{slice_split-cons_yes, slice_split-cons_no}
use Rattle.std.specs.Char.{is_ascii_digit}
use Rattle.std.specs.Str.{all_ascii_digits}
use Rattle.std.proofs.lemmas.Str.Parse.{IsNumeralModel, numerals_by_fold}
use Rattle.std.proofs.lemmas.Fmt.{digits_decimal, digits_value-decimal, decimal_nonempty}
use Rattle.std.proofs.lemmas.Bool.{cond-true, cond-false, and_from, and_parts, le-leb, leb-true, ne_eqb, not-true}
use Rattle.page_text.specs.declared.line.LineKind.TheVariants.{Text}
use Rattle.page_text.specs.Bytes.{blank, feed, full, words, digit, digits, whole, numbers, plus}
use Rattle.page_text.specs.Lines.{ended, lines, by_words, line_kind}
use Rattle.page_text.proofs.Cuts.{split_first}
use Rattle.page_writer.specs.Texts.{spaced, number_text, number_line}
use Rattle.page_writer.proofs.Digits.{decimal_short}

-- bytes that the test does not pick
abbrev pub Free : (ℕ → Bool) → List ℕ → Type 0
Free test w = AllByRecursion (λ b. test b ≡ false) w

free_append : (test : ℕ → Bool) (v w : List ℕ) → Free test v → Free test w → Free test (v ++ w)
free_append test [] w f g = g
free_append test (b ∷ v) w f g = (f.0, free_append test v w f.1 g)

-- a text that computes is free of a byte if a test says so
abbrev clear : (ℕ → Bool) → List ℕ → Bool
clear test [] = true
clear test (b ∷ w) = not (test b) && clear test w

pub free_clear : (test : ℕ → Bool) (w : List ℕ) → clear test w ≡ true → Free test w
free_clear test [] h = tt
free_clear test (b ∷ w) h = let t = and_parts (not (test b)) (clear test w) h in (not-true (test b) t.0, free_clear test w t.1)

split_cut : (test : ℕ → Bool) (w : List ℕ) (d : ℕ) (rest : List ℕ) → Free test w → test d ≡ true → slice_split test (w ++ d ∷ rest) ≡ w ∷ slice_split test rest
split_cut test [] d rest f e = slice_split-cons_yes test d rest e
split_cut test (b ∷ w) d rest f e = slice_split-cons_no test b (w ++ d ∷ rest) f.0 ∙ ap (onto_first b) (split_cut test w d rest f.1 e)

split_last : (test : ℕ → Bool) (w : List ℕ) → Free test w → slice_split test w ≡ w ∷ []
split_last test [] f = refl
split_last test (b ∷ w) f = slice_split-cons_no test b w f.0 ∙ ap (onto_first b) (split_last test w f.1)

words_cut : (w rest : List ℕ) → Free blank w → 0 < length w → words (w ++ 32 ∷ rest) ≡ w ∷ words rest
words_cut [] rest f h = absurd (omega arith)
words_cut (b ∷ w) rest f h = ap full (split_cut blank (b ∷ w) 32 rest f refl)

words_last : (w : List ℕ) → Free blank w → 0 < length w → words w ≡ w ∷ []
words_last [] f h = absurd (omega arith)
words_last (b ∷ w) f h = ap full (split_last blank (b ∷ w) f)

pub lines_cut : (l rest : List ℕ) → Free feed l → lines (l ++ 10 ∷ rest) ≡ l ∷ lines rest
lines_cut l rest f = ap ended (split_cut feed l 10 rest f refl ∙ ap (λ ps. l ∷ ps) (split_first feed rest)) ∙ ap (λ ps. l ∷ ended ps) (sym (split_first feed rest))

-- digits
abbrev read_on : ℕ → List ℕ → ℕ
read_on n [] = n
read_on n (c ∷ cs) = read_on (n * 10 + (c - 48)) cs

own : IsNumeralModel (λ ds. all_ascii_digits ds ≡ true) (read_on 0)
own = numerals_by_fold _ (search rules) read_on (search rules)

digits_read : (n : ℕ) (cs : List ℕ) → all_ascii_digits cs ≡ true → digits n cs ≡ Some (read_on n cs)
digits_read n [] h = refl
digits_read n (c ∷ cs) h =
    let t = and_parts (is_ascii_digit c) (all_ascii_digits cs) h in
    cond-true (digit c) _ _ t.0 ∙ digits_read (n * 10 + (c - 48)) cs t.1

digit_bounds : (c : ℕ) → is_ascii_digit c ≡ true → (48 ≤ c) × (c ≤ 57)
digit_bounds c h = let t = and_parts (leb 48 c) (leb c 57) h in (leb-true 48 c t.0, leb-true c 57 t.1)

digit_plain : (c : ℕ) → is_ascii_digit c ≡ true → blank c ≡ false
digit_plain c h =
    let t = digit_bounds c h in
    let a : eqb c 9 ≡ false = ne_eqb c 9 (λ z. omega arith) in
    let b : eqb c 13 ≡ false = ne_eqb c 13 (λ z. omega arith) in
    let d : eqb c 32 ≡ false = ne_eqb c 32 (λ z. omega arith) in
    rw (a, b, d) refl

digit_inline : (c : ℕ) → is_ascii_digit c ≡ true → feed c ≡ false
digit_inline c h = let t = digit_bounds c h in ne_eqb c 10 (λ z. omega arith)

digits_free : (test : ℕ → Bool) → ((c : ℕ) → is_ascii_digit c ≡ true → test c ≡ false) → (cs : List ℕ) → all_ascii_digits cs ≡ true → Free test cs
digits_free test f [] h = tt
digits_free test f (c ∷ cs) h = let t = and_parts (is_ascii_digit c) (all_ascii_digits cs) h in (f c t.0, digits_free test f cs t.1)

module _ (n : ℕ) (h : n < 10 ^ 9) where
  decimal_digits : all_ascii_digits (decimal n) ≡ true
  decimal_digits = digits_decimal own n (omega arith)

  decimal_plain : Free blank (decimal n)
  decimal_plain = digits_free blank digit_plain (decimal n) decimal_digits

  decimal_inline : Free feed (decimal n)
  decimal_inline = digits_free feed digit_inline (decimal n) decimal_digits

  decimal_long : 0 < length (decimal n)
  decimal_long = decimal_nonempty n (omega arith)

  -- a written number is read back
  whole_decimal : whole (decimal n) ≡ Some n
  whole_decimal = cond-true (leb 1 (length (decimal n)) && leb (length (decimal n)) 9) _ _ (and_from _ _ (le-leb 1 (length (decimal n)) decimal_long) (le-leb (length (decimal n)) 9 (decimal_short n h))) ∙ digits_read 0 (decimal n) decimal_digits ∙ ap Some (digits_value-decimal own n (omega arith))

abbrev pub Small : List ℕ → Type 0
Small ns = AllByRecursion (λ n. n < 10 ^ 9) ns

-- a written line is read back
words_line : (n : ℕ) (ns : List ℕ) → n < 10 ^ 9 → Small ns → words (number_text n ns) ≡ decimal n ∷ map decimal ns
words_line n [] h a = ap words (append-nil (decimal n)) ∙ words_last (decimal n) (decimal_plain n h) (decimal_long n h)
words_line n (m ∷ ms) h a = words_cut (decimal n) (number_text m ms) (decimal_plain n h) (decimal_long n h) ∙ ap (λ ws. decimal n ∷ ws) (words_line m ms a.0 a.1)

numbers_decimals : (ns : List ℕ) → Small ns → numbers (length ns) (map decimal ns) ≡ Some ns
numbers_decimals [] a = refl
numbers_decimals (n ∷ ns) a = ap (λ o. plus o (numbers (length ns) (map decimal ns))) (whole_decimal n a.0) ∙ ap (plus (Some n)) (numbers_decimals ns a.1)

first_digit : (w rest : List ℕ) → all_ascii_digits w ≡ true → 0 < length w → eqb (get_or (w ++ rest) 0 0) 37 ≡ false
first_digit [] rest h k = absurd (omega arith)
first_digit (c ∷ w) rest h k = let t = digit_bounds c (and_parts (is_ascii_digit c) (all_ascii_digits w) h).0 in ne_eqb c 37 (λ z. omega arith)

spaced_inline : (ns : List ℕ) → Small ns → Free feed (flat_map spaced ns)
spaced_inline [] a = tt
spaced_inline (n ∷ ns) a = (refl, free_append feed (decimal n) (flat_map spaced ns) (decimal_inline n a.0) (spaced_inline ns a.1))

spaced_short : (ns : List ℕ) → Small ns → length (flat_map spaced ns) ≤ 10 * length ns
spaced_short [] a = omega arith
spaced_short (n ∷ ns) a = omega (arith, length-append (decimal n) (flat_map spaced ns), decimal_short n a.0, spaced_short ns a.1)

module _ (n : ℕ) (ns : List ℕ) (h : n < 10 ^ 9) (a : Small ns) where
  pub numbers_line : numbers (length (n ∷ ns)) (words (number_text n ns)) ≡ Some (n ∷ ns)
  numbers_line = ap (numbers (length (n ∷ ns))) (words_line n ns h a) ∙ numbers_decimals (n ∷ ns) (h, a)

  pub kind_line : line_kind (number_text n ns) ≡ Text
  kind_line = cond-false (eqb (get_or (number_text n ns) 0 0) 37) _ _ (first_digit (decimal n) (flat_map spaced ns) (decimal_digits n h) (decimal_long n h)) ∙ ap by_words (words_line n ns h a)

  pub short_line : length (number_text n ns) ≤ 10 * (1 + length ns)
  short_line = omega (arith, length-append (decimal n) (flat_map spaced ns), decimal_short n h, spaced_short ns a)

  pub lines_line : (rest : List ℕ) → lines (number_line n ns ++ rest) ≡ number_text n ns ∷ lines rest
  lines_line rest = ap lines (append_assoc (number_text n ns) (10 ∷ []) rest) ∙ lines_cut (number_text n ns) rest (free_append feed (decimal n) (flat_map spaced ns) (decimal_inline n h) (spaced_inline ns a))
