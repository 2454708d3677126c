-- Why the path found is a shortest one, and why none is found only where there is none.
use Rattle.std.proofs.Common.{◌≡◌, ℕ, zero, suc, ◌+◌, ◌<◌, ◌≤◌, true, false, not, ◌&&◌, eqb, ltb, ◌⊎◌, List, [], ◌∷◌, length, sym, refl, ap, ◌∙◌, inl, inr, ⊎_elim, arith}
use Rattle.std.proofs.lemmas.Bool.{cases_lt, cases_Bool, both_ways, and_parts, and_from, or_cases, or_left, or_right, not-true, not_from_false, ltb-true, lt-ltb, eqb-true, eq-eqb, ne_eqb}
use Rattle.search.specs.declared.queue.Reached.{Reached}
use Rattle.refusal.specs.Tables.{at}
use Rattle.search.specs.Scene.{Scene, usable, holder}
use Rattle.search.specs.Search.{who, parent_of, depth_of, Chain, Listed, Path}
use Rattle.search.proofs.Counting.{one_of, one_none}
use Rattle.search.specs.Paths.{apart, leads, ends, improving, one, pairs, Shortest, NoPath, Safe, back, trail}

-- every place above the depth L was looked from: each of its slots leads to one in the queue no more than one deeper, or to one with a name
pub record Explored (S : Scene) (q : List Reached) (L : ℕ) : Type 0 where
  pub first : who q 0 ≡ S.root
  pub some : 0 < length q
  pub top : depth_of q 0 ≡ 0
  pub high : (k : ℕ) → k < length q → S.reaches (who q k) S.root ≡ true
  pub near : (k : ℕ) → k < length q → depth_of q k < L → (t : ℕ) → usable S (who q k) t ≡ true
      → (0 < holder S t) × (Listed q (depth_of q k + 1) (holder S t) ⊎ (0 < at 0 S.names (holder S t)))

-- the parts of `leads` and `improving`
record Step (S : Scene) (e : ℕ × ℕ) (p : List (ℕ × ℕ)) (x : ℕ) : Type 0 where
  fair : usable S e.0 e.1 ≡ true
  sits : holder S e.1 ≡ x
  number : 0 < x
  before : leads S p e.0 ≡ true

step : (S : Scene) (e : ℕ × ℕ) (p : List (ℕ × ℕ)) (x : ℕ) → leads S (e ∷ p) x ≡ true → Step S e p x
step S e p x h =
    let a = and_parts (usable S e.0 e.1) (eqb (holder S e.1) x && (ltb 0 x && (apart x (e ∷ p) && leads S p e.0))) h in
    let b = and_parts (eqb (holder S e.1) x) (ltb 0 x && (apart x (e ∷ p) && leads S p e.0)) a.1 in
    let c = and_parts (ltb 0 x) (apart x (e ∷ p) && leads S p e.0) b.1 in
    record { fair = a.0; sits = eqb-true (holder S e.1) x b.0; number = ltb-true 0 x c.0; before = (and_parts (apart x (e ∷ p)) (leads S p e.0) c.1).1 }

record Whole (S : Scene) (e : ℕ × ℕ) (p : List (ℕ × ℕ)) : Type 0 where
  fair : usable S e.0 e.1 ≡ true
  end : (holder S e.1 ≡ 0) ⊎ (S.reaches (holder S e.1) S.root ≡ false)
  before : leads S p e.0 ≡ true

whole : (S : Scene) (e : ℕ × ℕ) (p : List (ℕ × ℕ)) → improving S (e ∷ p) ≡ true → Whole S e p
whole S e p h =
    let y = holder S e.1 in
    let a = and_parts (usable S e.0 e.1) (ends S y (e ∷ p) && leads S p e.0) h in
    let b = and_parts (ends S y (e ∷ p)) (leads S p e.0) a.1 in
    record {
      fair = a.0;
      before = b.1;
      end = ⊎_elim (λ z. inl (eqb-true y 0 z)) (λ z. inr (not-true (S.reaches y S.root) (and_parts (not (S.reaches y S.root)) (apart y (e ∷ p)) z).0))
          (or_cases (eqb y 0) (not (S.reaches y S.root) && apart y (e ∷ p)) b.0);
    }

module _ (S : Scene) (q : List Reached) (L : ℕ) (ex : Explored S q L) (safe : Safe S) where
  -- from where a path may go on, its slots lead to where it may go on
  onward : (d x s : ℕ) → d < L → Listed q d x ⊎ (0 < at 0 S.names x) → usable S x s ≡ true
      → (0 < holder S s) × (Listed q (d + 1) (holder S s) ⊎ (0 < at 0 S.names (holder S s)))
  onward d x s h (inl w) u =
      let r = ex.near w.place w.within (omega (arith, w.depth)) s (ap (λ z. usable S z s) w.is ∙ u) in
      (r.0, ⊎_elim (λ v. inl (record { place = v.place; within = v.within; is = v.is; depth = omega (arith, v.depth, w.depth) })) (λ v. inr v) r.1)
  onward d x s h (inr w) u = let r = safe.kept x s w u in (r.0, inr r.1)

  -- the members that pairs lead to, as many as L, are in the queue, or have a name
  pub reached : (p : List (ℕ × ℕ)) (x : ℕ) → length p ≤ L → leads S p x ≡ true → Listed q (length p) x ⊎ (0 < at 0 S.names x)
  reached [] x h e = inl (record { place = 0; within = ex.some; is = ex.first ∙ sym (eqb-true x S.root e); depth = omega (arith, ex.top) })
  reached (e ∷ p) x h l =
      let a = step S e p x l in
      let y = a.sits in
      let r = onward (length p) e.0 e.1 (omega arith) (reached p e.0 (omega arith) a.before) a.fair in
      ⊎_elim
      (λ v. inl (record { place = v.place; within = v.within; is = v.is ∙ y; depth = omega (arith, v.depth) }))
      (λ v. inr (let f = ap (at 0 S.names) y in omega arith))
      r.1

  high_of : (d y : ℕ) → Listed q d y ⊎ (0 < at 0 S.names y) → S.reaches y S.root ≡ true
  high_of d y (inl w) = ap (λ z. S.reaches z S.root) (sym w.is) ∙ ex.high w.place w.within
  high_of d y (inr w) = safe.high y w

  -- no path has L new pairs or fewer
  pub longer : (o : List (ℕ × ℕ)) → improving S o ≡ true → L < length o
  longer [] h = absurd (both_ways false refl h)
  longer (e ∷ p) h = ⊎_elim
      (λ lt.
      let a = whole S e p h in
      let r = onward (length p) e.0 e.1 lt (reached p e.0 (omega arith) a.before) a.fair in
      absurd (⊎_elim
      (λ z. let w : ⊥ = omega (arith, r.0) in w)
      (λ z. both_ways (S.reaches (holder S e.1) S.root) z (high_of (length p + 1) (holder S e.1) r.1))
      a.end))
      (λ ge. omega arith)
      (cases_lt (length p) L)

-- what leads to a member has a pair of the plan for each new one
pub pairs_of : (S : Scene) (p : List (ℕ × ℕ)) (x : ℕ) → leads S p x ≡ true → pairs S.member_in p ≡ length p + length p
pairs_of S [] x h = refl
pairs_of S (e ∷ p) x h =
    let a = step S e p x h in
    omega (arith, one_of (holder S e.1) (omega (arith, a.sits, a.number)), pairs_of S p e.0 a.before)

-- the place k of the queue and the members above it on its way
module _ (S : Scene) (q : List Reached) (c : Chain S q) where
  not_same : (a b : ℕ) → (a ≡ b → ⊥) → not (eqb a b) ≡ true
  not_same a b h = not_from_false (eqb a b) (ne_eqb a b h)

  pub apart_back : (f k y : ℕ) → k < length q → k ≤ f → ((j : ℕ) → j < k → who q j ≡ y → ⊥) → apart y (back f q k) ≡ true
  apart_back zero k y h l a = refl
  apart_back (suc f) zero y h l a = refl
  apart_back (suc f) (suc k) y h l a =
      let e = c.earlier (suc k) (omega arith) h in
      and_from _ _ (not_same (who q (parent_of q (suc k))) y (a (parent_of q (suc k)) e))
      (apart_back f (parent_of q (suc k)) y (omega arith) (omega arith) (λ j g. a j (omega arith)))

  pub leads_back : (f k : ℕ) → k < length q → k ≤ f → leads S (back f q k) (who q k) ≡ true
  leads_back zero zero h l = eq-eqb _ _ c.first
  leads_back zero (suc k) h l = absurd (let z : ⊥ = omega arith in z)
  leads_back (suc f) zero h l = eq-eqb _ _ c.first
  leads_back (suc f) (suc k) h l =
      let e = c.earlier (suc k) (omega arith) h in
      let j = c.joined (suc k) (omega arith) h in
      and_from _ _ (and_from _ _ j.allowed j.present)
      (and_from _ _ (eq-eqb _ _ (c.sits (suc k) (omega arith) h))
      (and_from _ _ (lt-ltb 0 (who q (suc k)) (c.number (suc k) h))
      (and_from _ _ (apart_back (suc f) (suc k) (who q (suc k)) h l (λ i g. c.apart i (suc k) g h))
      (leads_back f (parent_of q (suc k)) (omega arith) (omega arith)))))

  pub length_back : (f k : ℕ) → k < length q → k ≤ f → length (back f q k) ≡ depth_of q k
  length_back zero zero h l = sym c.top
  length_back zero (suc k) h l = absurd (let z : ⊥ = omega arith in z)
  length_back (suc f) zero h l = sym c.top
  length_back (suc f) (suc k) h l =
      let e = c.earlier (suc k) (omega arith) h in
      omega (arith, length_back f (parent_of q (suc k)) (omega arith) (omega arith), c.deeper (suc k) (omega arith) h)

module _ (S : Scene) (q : List Reached) (i t : ℕ) (p : Path S q i t) where
  pub trail_leads : leads S (back i q i) (who q i) ≡ true
  trail_leads = leads_back S q p.chain i i p.within (omega arith)

  pub trail_improves : improving S (trail q i t) ≡ true
  trail_improves = and_from _ _ (and_from _ _ p.last p.exit.present)
      (and_from _ _
      (⊎_elim
      (λ h. or_right _ _ (and_from _ _ (not_from_false _ (p.exit.lower h))
      (and_from _ _ (not_same S q p.chain (who q i) (holder S t) (clash i p.within h))
      (apart_back S q p.chain i i (holder S t) p.within (omega arith) (λ j g. clash j (omega (arith, p.within)) h)))))
      (λ h. or_left _ _ (eq-eqb _ _ (let z : holder S t ≡ 0 = omega arith in z)))
      (cases_lt 0 (holder S t)))
      trail_leads)
    where
      clash : (j : ℕ) → j < length q → 0 < holder S t → who q j ≡ holder S t → ⊥
      clash j g h e = both_ways (S.reaches (holder S t) S.root) (p.exit.lower h) (ap (λ z. S.reaches z S.root) (sym e) ∙ p.chain.high j g)

  pub trail_pairs : pairs S.member_in (trail q i t) ≡ 1 + one (holder S t) + (depth_of q i + depth_of q i)
  trail_pairs = omega (arith, pairs_of S (back i q i) (who q i) trail_leads, length_back S q p.chain i i p.within (omega arith))

  -- at an unfilled slot
  pub shortest_empty : (q₀ : List Reached) → Explored S q₀ (depth_of q i) → Safe S → holder S t ≡ 0 → Shortest S (trail q i t)
  shortest_empty q₀ ex safe z = record { path = trail_improves; least = λ o h. least o h }
    where
      least : (o : List (ℕ × ℕ)) → improving S o ≡ true → pairs S.member_in (trail q i t) ≤ pairs S.member_in o
      least [] h = absurd (both_ways false refl h)
      least (e ∷ o) h =
          let l = longer S q₀ (depth_of q i) ex safe (e ∷ o) h in
          omega (arith, trail_pairs, one_none (holder S t) z, pairs_of S o e.0 (whole S e o h).before)

  -- at a lower member, where every slot seen down to that depth is filled
  pub shortest_lower : (q₀ : List Reached) → Explored S q₀ (depth_of q i) → Safe S
      → ((k : ℕ) → k < length q₀ → depth_of q₀ k ≤ depth_of q i → (s : ℕ) → usable S (who q₀ k) s ≡ true → 0 < holder S s)
      → 0 < holder S t → Shortest S (trail q i t)
  shortest_lower q₀ ex safe full z = record { path = trail_improves; least = λ o h. least o h }
    where
      filled : (e : ℕ × ℕ) (o : List (ℕ × ℕ)) → improving S (e ∷ o) ≡ true → length o ≤ depth_of q i → 0 < holder S e.1
      filled e o h l =
          let a = whole S e o h in
          ⊎_elim
          (λ w. full w.place w.within (omega (arith, w.depth)) e.1 (ap (λ x. usable S x e.1) w.is ∙ a.fair))
          (λ w. (safe.kept e.0 e.1 w a.fair).0)
          (reached S q₀ (depth_of q i) ex safe o e.0 l a.before)

      least : (o : List (ℕ × ℕ)) → improving S o ≡ true → pairs S.member_in (trail q i t) ≤ pairs S.member_in o
      least [] h = absurd (both_ways false refl h)
      least (e ∷ o) h =
          let l = longer S q₀ (depth_of q i) ex safe (e ∷ o) h in
          let e1 = one_of (holder S t) z in
          let m = pairs_of S o e.0 (whole S e o h).before in
          ⊎_elim
          (λ g. let f = one_of (holder S e.1) (filled e o h g) in omega (arith, trail_pairs))
          (λ g. omega (arith, trail_pairs))
          (⊎_elim (λ g. inr g) (λ g. inl g) (cases_lt (depth_of q i) (length o)))

pub no_path : (S : Scene) (q : List Reached) → ((L : ℕ) → Explored S q L) → Safe S → NoPath S
no_path S q ex safe o = ⊎_elim
    (λ h. absurd (let l = longer S q (length o) (ex (length o)) safe o h in let z : ⊥ = omega arith in z))
    (λ h. h) (cases_Bool (improving S o))
