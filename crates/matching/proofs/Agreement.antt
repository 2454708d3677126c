-- Any two best plans have the same tally and the same digit, at every priority.
use Rattle.std.proofs.Common.{◌≡◌, ℕ, zero, suc, ◌+◌, Bool, true, false, cond, not, ◌&&◌, ◌⊎◌, Some, None, Option, sym, refl, ap, ◌∙◌, inl, inr, arith}
use Rattle.std.proofs.lemmas.Bool.{cases_Bool, or_cases, and_parts, and_from, and_right, not-true, not_from_false, both_ways}
use Rattle.refusal.specs.Counting.{count, within}
use Rattle.refusal.specs.Tables.{item, both}
use Rattle.refusal.proofs.Counts.{within_none, within_cases, count_same, same_if}
use Rattle.priority.specs.Order.{Ordered, level, higher}
use Rattle.matching.specs.Board.{size, placed, filled, tally}
use Rattle.matching.specs.Certificate.{BestPlansAgree}

module _ {P : Type 0} {reaches : P → P → Bool} (ordered : Ordered reaches) where
  -- each reaches itself
  self : (a : P) → reaches a a ≡ true
  self a = elim (or_cases (reaches a a) (reaches a a) (ordered.total a a)) [ inl e ↦ e | inr e ↦ e ]

  -- what reaches one that is higher than p is higher than p
  higher_up : (a b p : P) → reaches a b ≡ true → higher reaches b p ≡ true → higher reaches a p ≡ true
  higher_up a b p a-b b-p =
      let (b-reaches, not-p-b) = and_parts (reaches b p) (not (reaches p b)) b-p in
      and_from (reaches a p) (not (reaches p a)) (ordered.transitive a b p a-b b-reaches)
      (elim (cases_Bool (reaches p a)) [
        | inl p-a ↦ absurd (both_ways _ (not-true _ not-p-b) (ordered.transitive p a b p-a a-b))
        | inr e ↦ not_from_false _ e
      ])

  abbrev above : P → Option P → Bool
  above p o = both (higher reaches) o (Some p)

  abbrev from : P → Option P → Bool
  from q o = both reaches o (Some q)

  -- of the numbers 1 to n none is higher than p, or those higher than p are those that reach one of them, q
  Edge : (ℕ → Option P) → P → ℕ → Type 0
  Edge prio p n =
      ((i : ℕ) → within n i ≡ true → above p (prio i) ≡ false)
      ⊎ ((q : P) × (higher reaches q p ≡ true) × ((i : ℕ) → within n i ≡ true → above p (prio i) ≡ from q (prio i)))

  edge : (prio : ℕ → Option P) (p : P) (n : ℕ) → Edge prio p n
  unfolding Edge
  edge prio p zero = inl (λ i w. absurd (within_none i w))
  edge prio p (suc n) = step (prio (suc n)) refl (edge prio p n)
    where
      none_more : ((i : ℕ) → within n i ≡ true → above p (prio i) ≡ false) → above p (prio (suc n)) ≡ false → Edge prio p (suc n)
      none_more none here = inl (λ i w. elim (within_cases n i w) [ inl e ↦ rw e here | inr v ↦ none i v ])

      stays : (q : P) → higher reaches q p ≡ true → ((i : ℕ) → within n i ≡ true → above p (prio i) ≡ from q (prio i)) → above p (prio (suc n)) ≡ from q (prio (suc n)) → Edge prio p (suc n)
      stays q up same here = inr (q, up, λ i w. elim (within_cases n i w) [ inl e ↦ rw e here | inr v ↦ same i v ])

      -- whoever reaches a is higher than p, where a is
      reach_up : (a : P) → higher reaches a p ≡ true → (o : Option P) → (above p o ≡ true → from a o ≡ true) → above p o ≡ from a o
      reach_up a up None h = refl
      reach_up a up (Some b) h = same_if _ _ h (λ r. higher_up b a p r up)

      -- the new one, a, is the edge
      joins : (a : P) → prio (suc n) ≡ Some a → higher reaches a p ≡ true → ((i : ℕ) → within n i ≡ true → above p (prio i) ≡ true → from a (prio i) ≡ true) → Edge prio p (suc n)
      joins a is up reach = inr (
        a,
        up,
        λ i w. elim (within_cases n i w) [
          | inl e ↦ rw e (reach_up a up (prio (suc n)) (λ _. ap (from a) is ∙ self a))
          | inr v ↦ reach_up a up (prio i) (reach i v)
        ],
      )

      -- what reaches the old edge reaches a, where the old edge does
      on : (q a : P) → reaches q a ≡ true → (o : Option P) → from q o ≡ true → from a o ≡ true
      on q a r None h = h
      on q a r (Some b) h = ordered.transitive b q a h r

      last_high : (a : P) → prio (suc n) ≡ Some a → higher reaches a p ≡ true → Edge prio p n → Edge prio p (suc n)
      last_high a is up (inl none) = joins a is up (λ i v i-up. absurd (both_ways _ (none i v) i-up))
      last_high a is up (inr e) =
          let (q, q-up, same) = e in
          elim (cases_Bool (reaches a q)) [
            | inl high ↦ stays q q-up same (ap (above p) is ∙ up ∙ sym (ap (from q) is ∙ high))
            | inr low ↦
                let q-a : reaches q a ≡ true = elim (or_cases _ _ (ordered.total q a)) [ inl r ↦ r | inr r ↦ absurd (both_ways _ low r) ] in
                joins a is up (λ i v i-up. on q a q-a (prio i) (sym (same i v) ∙ i-up))
          ]

      last_low : (a : P) → prio (suc n) ≡ Some a → higher reaches a p ≡ false → Edge prio p n → Edge prio p (suc n)
      last_low a is low (inl none) = none_more none (ap (above p) is ∙ low)
      last_low a is low (inr e) =
          let (q, q-up, same) = e in
          stays q q-up same (same_if _ _ (λ h. absurd (both_ways _ (ap (above p) is ∙ low) h)) (λ h. absurd (both_ways _ low (higher_up a q p (sym (ap (from q) is) ∙ h) q-up))))

      step : (o : Option P) → prio (suc n) ≡ o → Edge prio p n → Edge prio p (suc n)
      step None is (inl none) = none_more none (ap (above p) is)
      step None is (inr e) = let (q, q-up, same) = e in stays q q-up same (ap (above p) is ∙ sym (ap (from q) is))
      step (Some a) is before = elim (cases_Bool (higher reaches a p)) [ inl up ↦ last_high a is up before | inr low ↦ last_low a is low before ]

  -- at least as high is level or higher
  one_split : (f : Bool) (o : Option P) (p : P) → ◌≡◌ {A = ℕ} (cond (f && both reaches o (Some p)) 1 0) (cond (f && both (level reaches) o (Some p)) 1 0 + cond (f && above p o) 1 0)
  one_split true None p = refl
  one_split false None p = refl
  one_split f (Some a) p = parts f (reaches a p) (reaches p a)
    where
      parts : (a b c : Bool) → ◌≡◌ {A = ℕ} (cond (a && b) 1 0) (cond (a && (b && c)) 1 0 + cond (a && (b && not c)) 1 0)
      parts true true true = refl
      parts true true false = refl
      parts true false c = refl
      parts false b c = refl

  count_split : (f : ℕ → Bool) (prio : ℕ → Option P) (p : P) (n : ℕ) → count (λ i. f i && from p (prio i)) n ≡ count (λ i. f i && both (level reaches) (prio i) (Some p)) n + count (λ i. f i && above p (prio i)) n
  count_split f prio p zero = refl
  count_split f prio p (suc n) = let rest = count_split f prio p n in let here = one_split (f (suc n)) (prio (suc n)) p in omega arith

  -- counts that agree at every 'at least as high' agree at every 'level'
  level_same : (f g : ℕ → Bool) (prio : ℕ → Option P) (n : ℕ) → ((q : P) → count (λ i. f i && from q (prio i)) n ≡ count (λ i. g i && from q (prio i)) n) → (p : P) → count (λ i. f i && both (level reaches) (prio i) (Some p)) n ≡ count (λ i. g i && both (level reaches) (prio i) (Some p)) n
  unfolding Edge
  level_same f g prio n same p =
      let strict : count (λ i. f i && above p (prio i)) n ≡ count (λ i. g i && above p (prio i)) n = elim (edge prio p n) [
        | inl none ↦ count_same _ _ n (λ i w. and_right (f i) _ (none i w) ∙ sym (and_right (g i) _ (none i w)))
        | inr e ↦
            let (q, up, edge-q) = e in
            count_same _ _ n (λ i w. ap (λ b. f i && b) (edge-q i w)) ∙ same q ∙ sym (count_same _ _ n (λ i w. ap (λ b. g i && b) (edge-q i w)))
      ] in
      omega (arith, count_split f prio p n, count_split g prio p n, same p)

pub best_plans_agree : {P : Type 0} {reaches : P → P → Bool} → Ordered reaches → BestPlansAgree reaches
best_plans_agree ordered board a b a-best b-best p =
    let programmes : (q : _) → (tally board a q).0 ≡ (tally board b q).0 = λ q. omega (arith, a-best.programmes q b b-best.lawful, b-best.programmes q a a-best.lawful) in
    let slots : (q : _) → (tally board a q).1 ≡ (tally board b q).1 = λ q. omega (arith, a-best.slots q b b-best.lawful, b-best.slots q a a-best.lawful) in
    let x = programmes p in
    let y = slots p in (
      λ i. (x i, y i),
      let u = level_same ordered (placed board a) (placed board b) (item board.programmes.priorities) (size board.programmes) programmes p in
          let v = level_same ordered (filled board a) (filled board b) (item board.slots.priorities) (size board.slots) slots p in
          omega arith,
    )
