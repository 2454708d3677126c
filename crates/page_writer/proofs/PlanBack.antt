-- The page of a plan is read back as the plan.
use Rattle.std.proofs.Common.{◌≡◌, ℕ, zero, suc, ◌*◌, ◌^◌, ◌<◌, ◌≤◌, Bool, true, false, ◌&&◌, ◌||◌, eqb, List, [], ◌∷◌, ◌++◌, length, Ok, sym, refl, ap, ◌∙◌, subst, ⊎_elim, append-nil, suc-mul, arith, length-append}
use mathlib.Core.Path.{fun_ext}
use Rattle.std.specs.List.{AllByRecursion}
use Rattle.std.proofs.lemmas.Bool.{cases_Bool, cond-true, cond-false, and_from, and_right, or_from, eqb-true, ne_eqb}
use Rattle.std.proofs.lemmas.Bool.Decides.{nat_tests}
use Rattle.refusal.specs.Counting.{within}
use Rattle.refusal.specs.Tables.{at}
use Rattle.refusal.proofs.Counts.{within_bounds, within_from}
use Rattle.page_text.specs.declared.fault.Page.{Page}
use Rattle.page_text.specs.declared.line.PageKind.TheVariants as kind_of
use Rattle.page_text.specs.Limits.{page_limit}
use Rattle.pages.specs.PairPages.{read_pairs}
use Rattle.pages.specs.PageLaws.{listed, Apart, PairsFit}
use Rattle.pages.proofs.PairLaws.{pairs_law}
use Rattle.page_writer.specs.PlanPage.{plan_rows, plan_columns, place_of, places, plan_page, plan_pairs}
use Rattle.page_writer.proofs.Trip.{Written, made}

all_append : {X : Type 0} (P : X → Type 0) (xs ys : List X) → AllByRecursion P xs → AllByRecursion P ys → AllByRecursion P (xs ++ ys)
all_append P [] ys f g = g
all_append P (x ∷ xs) ys f g = (f.0, all_append P xs ys f.1 g)

all_map : {X : Type 0} (P Q : X → Type 0) → ((x : X) → P x → Q x) → (xs : List X) → AllByRecursion P xs → AllByRecursion Q xs
all_map P Q f [] a = tt
all_map P Q f (x ∷ xs) a = (f x a.0, all_map P Q f xs a.1)

or_assoc : (a b c : Bool) → (a || (b || c)) ≡ ((a || b) || c)
or_assoc true b c = refl
or_assoc false b c = refl

and_or : (a b c : Bool) → ((a && c) || (b && c)) ≡ ((a || b) && c)
and_or true true true = refl
and_or true true false = refl
and_or true false true = refl
and_or true false false = refl
and_or false b c = refl

listed_append : (ps qs : List (ℕ × ℕ)) (i s : ℕ) → listed (ps ++ qs) i s ≡ (listed ps i s || listed qs i s)
listed_append [] qs i s = refl
listed_append (p ∷ ps) qs i s = ap (λ b. (eqb p.0 i && eqb p.1 s) || b) (listed_append ps qs i s) ∙ or_assoc (eqb p.0 i && eqb p.1 s) (listed ps i s) (listed qs i s)

within_suc : (n i : ℕ) → (within n i || eqb (suc n) i) ≡ within (suc n) i
within_suc n i = grind (arith, nat_tests)

within_zero : (i : ℕ) → within 0 i ≡ false
within_zero i = grind (arith, nat_tests)

-- pairs of lower programmes, and one more
apart_push : (ps : List (ℕ × ℕ)) (i s : ℕ) → AllByRecursion (λ p. p.0 < i) ps → Apart ps → Apart (ps ++ (i, s) ∷ [])
apart_push [] i s b a = (refl, tt)
apart_push (p ∷ ps) i s b a =
    let other : eqb i p.0 ≡ false = ne_eqb i p.0 (λ e. omega (arith, b.0)) in
    (listed_append ps ((i, s) ∷ []) p.0 p.1 ∙ or_from _ _ a.0 (ap (λ v. (v && eqb s p.1) || false) other), apart_push ps i s b.1 a.1)

module _ (columns : ℕ) (t : List ℕ) where
  -- the pair's programme is one of the first n, and its slot within the columns
  abbrev In : ℕ → ℕ × ℕ → Type 0
  In n p = (0 < p.0) × (p.0 ≤ n) × (within columns p.1 ≡ true)

  -- the pair of one programme, or none
  module _ (P : List (ℕ × ℕ) → Type 0) (i : ℕ) where
    place_cases : (within columns (at 0 t i) ≡ true → P ((i, at 0 t i) ∷ [])) → (within columns (at 0 t i) ≡ false → P []) → P (place_of columns t i)
    place_cases there none =
        ⊎_elim
        (λ h. subst P (sym (cond-true (within columns (at 0 t i)) _ _ h)) (there h))
        (λ h. subst P (sym (cond-false (within columns (at 0 t i)) _ _ h)) (none h))
        (cases_Bool (within columns (at 0 t i)))

  places_in : (n : ℕ) → AllByRecursion (In n) (places columns t n)
  places_in zero = tt
  places_in (suc n) =
      all_append (In (suc n)) (places columns t n) (place_of columns t (suc n))
      (all_map (In n) (In (suc n)) (λ p h. (h.0, omega (arith, h.1), h.2)) (places columns t n) (places_in n))
      (place_cases (AllByRecursion (In (suc n))) (suc n) (λ h. ((omega arith, omega arith, h), tt)) (λ h. tt))

  places_apart : (n : ℕ) → Apart (places columns t n)
  places_apart zero = tt
  places_apart (suc n) =
      place_cases (λ qs. Apart (places columns t n ++ qs)) (suc n)
      (λ h. apart_push (places columns t n) (suc n) (at 0 t (suc n)) (all_map (In n) (λ p. p.0 < suc n) (λ p k. omega (arith, k.1)) (places columns t n) (places_in n)) (places_apart n))
      (λ h. subst Apart (sym (append-nil (places columns t n))) (places_apart n))

  places_few : (n : ℕ) → length (places columns t n) ≤ n * columns
  places_few zero = omega arith
  places_few (suc n) =
      let one : length (place_of columns t (suc n)) ≤ columns = place_cases (λ qs. length qs ≤ columns) (suc n) (λ h. omega (arith, within_bounds columns (at 0 t (suc n)) h)) (λ h. omega arith) in
      omega (arith, length-append (places columns t n) (place_of columns t (suc n)), places_few n, suc-mul n columns)

  places_rows : (n : ℕ) → length (places columns t n) ≤ n
  places_rows zero = omega arith
  places_rows (suc n) =
      let one : length (place_of columns t (suc n)) ≤ 1 = place_cases (λ qs. length qs ≤ 1) (suc n) (λ h. omega arith) (λ h. omega arith) in
      omega (arith, length-append (places columns t n) (place_of columns t (suc n)), places_rows n)

  -- which pairs are listed
  abbrev Held : ℕ → ℕ → Bool
  Held i s = within columns s && eqb (at 0 t i) s

  held_yes : (i s : ℕ) → within columns (at 0 t i) ≡ true → eqb (at 0 t i) s ≡ Held i s
  held_yes i s h =
      ⊎_elim
      (λ e. let same = eqb-true (at 0 t i) s e in e ∙ sym (and_from _ _ (ap (within columns) (sym same) ∙ h) e))
      (λ e. e ∙ sym (and_right _ _ e))
      (cases_Bool (eqb (at 0 t i) s))

  held_no : (i s : ℕ) → within columns (at 0 t i) ≡ false → false ≡ Held i s
  held_no i s h =
      ⊎_elim
      (λ e. let same = eqb-true (at 0 t i) s e in sym (ap (λ b. b && eqb (at 0 t i) s) (ap (within columns) (sym same) ∙ h)))
      (λ e. sym (and_right _ _ e))
      (cases_Bool (eqb (at 0 t i) s))

  or_none : (b : Bool) → (b || false) ≡ b
  or_none true = refl
  or_none false = refl

  held_at : (i j s : ℕ) → (eqb i j && Held i s) ≡ (eqb i j && Held j s)
  held_at i j s =
      ⊎_elim
      (λ e. ap (λ k. eqb i j && Held k s) (eqb-true i j e))
      (λ e. ap (λ b. b && Held i s) e ∙ sym (ap (λ b. b && Held j s) e))
      (cases_Bool (eqb i j))

  listed_place : (i j s : ℕ) → listed (place_of columns t i) j s ≡ (eqb i j && Held j s)
  listed_place i j s =
      place_cases (λ qs. listed qs j s ≡ (eqb i j && Held i s)) i
      (λ h. or_none (eqb i j && eqb (at 0 t i) s) ∙ ap (λ b. eqb i j && b) (held_yes i s h))
      (λ h. sym (and_right (eqb i j) (Held i s) (sym (held_no i s h))))
      ∙ held_at i j s

  pub listed_places : (n i s : ℕ) → listed (places columns t n) i s ≡ (within n i && Held i s)
  listed_places zero i s = sym (ap (λ b. b && Held i s) (within_zero i))
  listed_places (suc n) i s =
      listed_append (places columns t n) (place_of columns t (suc n)) i s
      ∙ ap (λ b. b || listed (place_of columns t (suc n)) i s) (listed_places n i s)
      ∙ ap (λ b. (within n i && Held i s) || b) (listed_place (suc n) i s)
      ∙ and_or (within n i) (eqb (suc n) i) (Held i s)
      ∙ ap (λ b. b && Held i s) (within_suc n i)

module _ (slots : ℕ) (t : List ℕ) where
  pub plan_back : (page : Page) (text : List ℕ) → text ≡ plan_page slots t → length text ≤ page_limit → read_pairs page text ≡ Ok (plan_pairs slots t)
  plan_back page text e h =
      let rows = plan_rows t in
      let columns = plan_columns slots in
      let ps = places columns t rows in
      let inner = places_in columns t rows in
      let fit : PairsFit rows columns ps =
      record {
        few_rows = omega arith;
        few_columns = omega arith;
        few = places_few columns t rows;
        inner = all_map (In columns t rows) (λ p. (within rows p.0 && within columns p.1) ≡ true) (λ p k. and_from _ _ (within_from rows p.0 k.0 k.1) k.2) ps inner;
        apart = places_apart columns t rows;
      } in
      let small : AllByRecursion (Written 1 (λ (p : ℕ × ℕ). p.0) (λ (p : ℕ × ℕ). p.1 ∷ []) (omega arith) (λ p. refl)) ps =
      all_map (In columns t rows) _ (λ p k. (omega (arith, k.1), (omega (arith, within_bounds columns p.1 k.2), tt))) ps inner in
      let few : length ps < 10 ^ 9 = omega (arith, places_rows columns t rows) in
      pairs_law page text rows columns ps (made 1 (λ (p : ℕ × ℕ). p.0) (λ (p : ℕ × ℕ). p.1 ∷ []) (omega arith) (λ p. refl) kind_of.Pairs rows (columns ∷ length ps ∷ []) ps text (omega arith) (omega arith, (few, tt)) (omega arith) small e h) fit
      ∙ ap (λ f. Ok (record { programmes = rows; slots = columns; allowed = f })) (fun_ext (λ i. fun_ext (λ s. listed_places columns t rows i s)))
