-- A written page is made as the format says: its header, its size line, and a line for each entry.
use Rattle.std.proofs.Common.{◌≡◌, ℕ, suc, ◌^◌, ◌<◌, ◌≤◌, true, List, [], ◌∷◌, ◌++◌, map, length, codes, sym, refl, ap, ◌∙◌, arith}
use Rattle.std.specs.List.{flat_map, AllByRecursion}
use Rattle.page_text.specs.declared.line.PageKind.{PageKind}
use Rattle.page_text.specs.declared.line.PageKind.TheVariants.{Pairs, Table}
use Rattle.page_text.specs.Limits.{page_limit}
use Rattle.page_text.specs.Bytes.{feed, words, numbers}
use Rattle.page_text.specs.Lines.{lines, header}
use Rattle.pages.specs.PageLaws.{Short, Says, none, entry, MadeOf}
use Rattle.page_writer.specs.Texts.{title, number_text, number_line}
use Rattle.page_writer.proofs.Back.{free_clear, lines_cut, Small, numbers_line, kind_line, short_line, lines_line}

-- the header line, without its line feed
abbrev top : PageKind → List ℕ
top Pairs = codes "%%MatrixMarket matrix coordinate pattern general"
top Table = codes "%%MatrixMarket matrix array integer general"

top_lines : (kind : PageKind) (rest : List ℕ) → lines (title kind ++ rest) ≡ top kind ∷ lines rest
top_lines Pairs rest = lines_cut (top Pairs) rest (free_clear feed (top Pairs) refl)
top_lines Table rest = lines_cut (top Table) rest (free_clear feed (top Table) refl)

top_headed : (kind : PageKind) → Short (top kind) × (header kind (top kind) ≡ true)
top_headed Pairs = (omega arith, refl)
top_headed Table = (omega arith, refl)

-- entries of a first number and k more
module _ {X : Type 0} (k : ℕ) (first : X → ℕ) (more : X → List ℕ) (few : k ≤ 9) (same : (x : X) → length (more x) ≡ k) where
  abbrev pub Written : X → Type 0
  Written x = (first x < 10 ^ 9) × Small (more x)

  entry_lines : (xs : List X) → AllByRecursion Written xs → lines (flat_map (λ x. number_line (first x) (more x)) xs) ≡ map (λ x. number_text (first x) (more x)) xs
  entry_lines [] a = refl
  entry_lines (x ∷ xs) a = lines_line (first x) (more x) a.0.0 a.0.1 _ ∙ ap (λ ls. number_text (first x) (more x) ∷ ls) (entry_lines xs a.1)

  says : (xs : List X) → AllByRecursion Written xs → Says (suc k) (map (λ x. number_text (first x) (more x)) xs) (map (λ x. first x ∷ more x) xs)
  says [] a = none
  says (x ∷ xs) a =
      let h = a.0.0 in
      let s = a.0.1 in
      entry
      (omega (arith, short_line (first x) (more x) h s, same x))
      (kind_line (first x) (more x) h s)
      (ap (λ m. numbers (suc m) (words (number_text (first x) (more x)))) (sym (same x)) ∙ numbers_line (first x) (more x) h s)
      (says xs a.1)

  pub made : (kind : PageKind) (n : ℕ) (ns : List ℕ) (xs : List X) (bytes : List ℕ) → n < 10 ^ 9 → Small ns → length ns ≤ 9 → AllByRecursion Written xs → bytes ≡ title kind ++ (number_line n ns ++ flat_map (λ x. number_line (first x) (more x)) xs) → length bytes ≤ page_limit → MadeOf kind (suc k) bytes (n ∷ ns) (map (λ x. first x ∷ more x) xs)
  made kind n ns xs bytes h s l a e b =
      record {
        short = b;
        top = top kind;
        notes = [];
        size = number_text n ns;
        rest = map (λ x. number_text (first x) (more x)) xs;
        is = ap lines e ∙ top_lines kind _ ∙ ap (λ ls. top kind ∷ ls) (lines_line n ns h s _ ∙ ap (λ ls. number_text n ns ∷ ls) (entry_lines xs a));
        headed = top_headed kind;
        noted = tt;
        sized = (omega (arith, short_line n ns h s), kind_line n ns h s, numbers_line n ns h s);
        said = says xs a;
      }
