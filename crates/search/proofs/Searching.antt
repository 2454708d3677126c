-- The whole search, place after place of the queue.
use Rattle.std.proofs.Common.{◌≡◌, ℕ, suc, ◌+◌, ◌<◌, ◌≤◌, Bool, true, false, List, [], ◌∷◌, length, get_or, Some, None, Option, sym, refl, ap, ◌∙◌, inl, inr, ⊎_elim, arith, below_more}
use Rattle.std.proofs.lemmas.Bool.{cases_eq, cases_lt, both_ways, and_parts, ltb-true, ltb-false}
use Rattle.search.specs.declared.queue.Reached.{Reached}
use Rattle.refusal.specs.Limits.{side}
use Rattle.refusal.specs.Tables.{at, put}
use Rattle.refusal.proofs.Entries.{length-put, at-put_same, at-put_other}
use Rattle.search.specs.Scene.{Scene, holder}
use Rattle.search.specs.declared.queue.End.{End}
use Rattle.search.specs.Search.{who, via, depth_of, Chain, unmarked, Marks, Grown, Listed, AllLed, Path, Under, SomeSlot, Unders, Goes, Stops, Before, Met, past, pick, Stuck}
use Rattle.search.specs.Paths.{Found, Ended}
use Rattle.search.proofs.Counting.{one_of, one_none}
use Rattle.search.proofs.Shortest.{Explored, trail_pairs, shortest_empty, shortest_lower, no_path}
use Rattle.search.proofs.Looking.{unmarked_put}

-- the lower end met, if one was, is one
abbrev pub Standing : Scene → List Reached → Option End → Type 0
Standing S q None = Unit {0}
Standing S q (Some e) = Under S (who q e.from) e.slot × (e.pairs ≡ depth_of q e.from + depth_of q e.from + 2)

-- what the whole search keeps true
pub record Searching (S : Scene) (q : List Reached) (m : List Bool) (next : ℕ) (low : Option End) : Type 0 where
  pub chain : Chain S q
  pub marks : Marks q m
  pub within : next ≤ length q
  pub order : (j k : ℕ) → j ≤ k → k < length q → depth_of q j ≤ depth_of q k
  pub near : (k j : ℕ) → k < length q → next ≤ j → j < length q → depth_of q k ≤ depth_of q j + 1
  pub before : Before low next
  pub standing : Standing S q low
  pub led : (k : ℕ) → k < next → AllLed S q (depth_of q k) (Met q low (depth_of q k)) (who q k)

unmarked_none : (m : List Bool) → ((k : ℕ) → get_or m k false ≡ false) → unmarked m ≡ length m
unmarked_none [] h = refl
unmarked_none (true ∷ m) h = absurd (both_ways true (h 0) refl)
unmarked_none (false ∷ m) h = ap suc (unmarked_none m (λ k. h (suc k)))

-- only the root in the queue
module _ (S : Scene) (m : List Bool) (clear : (k : ℕ) → at false m k ≡ false)
    (r0 : 0 < S.root) (rl : S.root ≤ length m) (self : S.reaches S.root S.root ≡ true) (new : at 0 S.names S.root ≡ 0) where
  abbrev q : List Reached
  q = record { member = S.root; slot = 0; parent = 0; depth = 0 } ∷ []

  abbrev m' : List Bool
  m' = put m S.root true

  first : (k : ℕ) → k < 1 → k ≡ 0
  first k h = omega arith

  deep_is : (k : ℕ) → k < 1 → depth_of q k ≡ 0
  deep_is k h = ap (depth_of q) (first k h)

  root_is : (k : ℕ) → k < 1 → who q k ≡ S.root
  root_is k h = ap (who q) (first k h)

  pub begin_step : Searching S q m' 0 None
  begin_step = record {
    chain = record {
      some = omega arith;
      first = refl;
      number = λ k h. omega (arith, root_is k h);
      high = λ k h. ap (λ z. S.reaches z S.root) (root_is k h) ∙ self;
      unnamed = λ k h. ap (at 0 S.names) (root_is k h) ∙ new;
      earlier = λ k p h. absurd (let z : ⊥ = omega arith in z);
      joined = λ k p h. absurd (let z : ⊥ = omega arith in z);
      sits = λ k p h. absurd (let z : ⊥ = omega arith in z);
      apart = λ j k p h e. omega arith;
      top = refl;
      deeper = λ k p h. absurd (let z : ⊥ = omega arith in z);
      shallow = λ k h. omega (arith, deep_is k h);
    };
    marks = record {
      member = λ k h. ap (at false m') (root_is k h) ∙ at-put_same false m S.root true r0 rl;
      listed = λ y h. ⊎_elim (λ e. (0, omega arith, sym e))
          (λ e. absurd (both_ways (at false m y) (clear y) (sym (at-put_other false m S.root true y e) ∙ h)))
          (cases_eq y S.root);
      count = omega (arith, unmarked_none m (λ k. clear (suc k)), unmarked_put m S.root r0 rl (clear S.root), length-put m S.root true);
    };
    within = omega arith;
    order = λ j k p h. omega (arith, deep_is j (omega arith), deep_is k h);
    near = λ k j h p g. omega (arith, deep_is k h);
    before = tt;
    standing = tt;
    led = λ k h. absurd (let z : ⊥ = omega arith in z);
  }

led_by : (S : Scene) (q q' : List Reached) (d d' : ℕ) (B B' : Type 0) (x x' : ℕ) → d' ≡ d → x' ≡ x
    → ((e z : ℕ) → Listed q e z → Listed q' e z) → (B → B') → AllLed S q d B x → AllLed S q' d' B' x'
led_by S q q' d d' B B' x x' de e kept b h t o p =
    let w = h t (ap (λ z. S.allowed z t) (sym e) ∙ o) p in (
      w.0,
      ⊎_elim
          (λ v. inl (let u = kept (d + 1) (at 0 S.member_in t) v in record { place = u.place; within = u.within; is = u.is; depth = omega (arith, u.depth) }))
          (λ v. inr (⊎_elim (λ a. inl a) (λ a. inr (b a)) v)) w.1,
    )

listed_grown : (q q' : List Reached) (m m' : List Bool) → Grown q m q' m' → (d z : ℕ) → Listed q d z → Listed q' d z
listed_grown q q' m m' g d z w = record {
  place = w.place;
  within = omega (arith, g.more, w.within);
  is = g.same w.place w.within ∙ w.is;
  depth = omega (arith, g.level w.place w.within, w.depth);
}

-- the lower end remembered after the turn at `next`
met_more : (q q' : List Reached) (low : Option End) (slot : Option ℕ) (next d d' : ℕ) → past q low next ≡ false → Before low next
    → ((k : ℕ) → k ≤ next → depth_of q' k ≡ depth_of q k) → d' ≡ d → Met q low d → Met q' (pick low slot next (depth_of q next)) d'
met_more q q' None None next d d' np b same e h = absurd h
met_more q q' None (Some s) next d d' np b same e h = absurd h
met_more q q' (Some x) None next d d' np b same e h = omega (arith, same x.from (omega arith))
met_more q q' (Some x) (Some s) next d d' np b same e h = omega (arith, same next (omega arith), ltb-false (depth_of q x.from) (depth_of q next) np)

met_new : (q : List Reached) (low : Option End) (slot : Option ℕ) (next d x : ℕ) → depth_of q next ≡ d → SomeSlot slot → Met q (pick low slot next x) d
met_new q low None next d x e h = absurd h
met_new q low (Some s) next d x e h = omega arith

before_more : (low : Option End) (slot : Option ℕ) (next d : ℕ) → Before low next → Before (pick low slot next d) (next + 1)
before_more None None next d b = tt
before_more None (Some s) next d b = omega arith
before_more (Some x) None next d b = omega arith
before_more (Some x) (Some s) next d b = omega arith

under_by : (S : Scene) (x x' t : ℕ) → x' ≡ x → Under S x t → Under S x' t
under_by S x x' t e u = record { last = ap (λ z. S.allowed z t) e ∙ u.last; exit = u.exit; filled = u.filled }

standing_more : (S : Scene) (q q' : List Reached) (low : Option End) (slot : Option ℕ) (next : ℕ) → Before low next → ((k : ℕ) → k ≤ next → who q' k ≡ who q k) → ((k : ℕ) → k ≤ next → depth_of q' k ≡ depth_of q k)
    → Standing S q low → Unders S (who q next) slot → Standing S q' (pick low slot next (depth_of q next))
standing_more S q q' None None next b same lev h u = tt
standing_more S q q' None (Some s) next b same lev h u = (under_by S (who q next) (who q' next) s (same next (omega arith)) u, omega (arith, lev next (omega arith)))
standing_more S q q' (Some x) None next b same lev h u = (under_by S (who q x.from) (who q' x.from) x.slot (same x.from (omega arith)) h.0, omega (arith, h.1, lev x.from (omega arith)))
standing_more S q q' (Some x) (Some s) next b same lev h u = (under_by S (who q next) (who q' next) s (same next (omega arith)) u, omega (arith, lev next (omega arith)))

pub next_step : (S : Scene) (q : List Reached) (m : List Bool) (next : ℕ) (low : Option End) (q' : List Reached) (m' : List Bool) (slot : Option ℕ) (low' : Option End)
    → next < length q → past q low next ≡ false → low' ≡ pick low slot next (depth_of q next) → Searching S q m next low → Goes S q m next q' m' slot
    → Searching S q' m' (next + 1) low'
next_step S q m next low q' m' slot low' h np e s g =
    let lv = g.levels in
    let gr = g.grown in
    rw e (record {
      chain = g.chain;
      marks = g.marks;
      within = omega (arith, gr.more);
      order = lv.order;
      near = λ k j a b c. omega (arith, lv.near k a, lv.order next j (omega arith) c);
      before = before_more low slot next (depth_of q next) s.before;
      standing = standing_more S q q' low slot next s.before (λ k a. gr.same k (omega arith)) (λ k a. gr.level k (omega arith)) s.standing g.under;
      led = below_more (λ k. AllLed S q' (depth_of q' k) (Met q' (pick low slot next (depth_of q next)) (depth_of q' k)) (who q' k)) next
          (λ k l. led_by S q q' (depth_of q k) (depth_of q' k) (Met q low (depth_of q k)) (Met q' (pick low slot next (depth_of q next)) (depth_of q' k)) (who q k) (who q' k)
          (gr.level k (omega arith)) (gr.same k (omega arith)) (listed_grown q q' m m' gr)
          (met_more q q' low slot next (depth_of q k) (depth_of q' k) np s.before (λ k a. gr.level k (omega arith)) (gr.level k (omega arith))) (s.led k l))
          (led_by S q' q' (depth_of q next) (depth_of q' next) (SomeSlot slot) (Met q' (pick low slot next (depth_of q next)) (depth_of q' next)) (who q next) (who q' next)
          (gr.level next h) (gr.same next h) (λ e z w. w) (met_new q' low slot next (depth_of q' next) (depth_of q next) refl) g.led);
    })

module _ (S : Scene) (q : List Reached) (m : List Bool) (next : ℕ) (low : Option End) (s : Searching S q m next low) where
  -- all above the depth L is explored, if it was looked from and no lower end was met there
  explored : (L : ℕ) → ((k : ℕ) → k < length q → depth_of q k < L → (k < next) × (Met q low (depth_of q k) → ⊥)) → Explored S q L
  explored L h = record {
    first = s.chain.first;
    some = s.chain.some;
    top = s.chain.top;
    high = s.chain.high;
    near = λ k a b t u.
        let w = h k a b in
        let v = and_parts (S.allowed (who q k) t) (at false S.slots t) u in
        let r = s.led k w.0 t v.0 v.1 in
        (r.0, ⊎_elim (λ z. inl z) (λ z. inr (⊎_elim (λ y. y) (λ y. absurd (w.1 y)) z)) r.1);
  }

  not_met : (d : ℕ) (l : Option End) → past q l next ≡ false → d < depth_of q next → Met q l d → ⊥
  not_met d None np h e = e
  not_met d (Some x) np h e = omega (arith, ltb-false (depth_of q x.from) (depth_of q next) np)

  pub found_empty : length m ≤ side → next < length q → past q low next ≡ false → (t : ℕ) (q' : List Reached) → Stops S q next t q' → Found S q' next t (depth_of q next + depth_of q next + 1)
  found_empty small h np t q' st = record {
    path = st.path;
    number = omega (arith, trail_pairs S q' next t st.path, one_none (holder S t) st.empty, st.level);
    small = omega (arith, s.chain.shallow next h, s.marks.count);
    shortest = λ safe. shortest_empty S q' next t st.path q
        (explored (depth_of q' next) (λ k a b. (
          ⊎_elim (λ c. c) (λ c. absurd (let z : ⊥ = omega (arith, s.order next k c a, st.level) in z)) (cases_lt k next),
          not_met (depth_of q k) low np (omega (arith, st.level)),
        )))
        safe st.empty;
  }

found_lower : (S : Scene) (q : List Reached) (m : List Bool) (next : ℕ) (e : End) → length m ≤ side → Searching S q m next (Some e)
    → ((k : ℕ) → k < length q → depth_of q k ≤ depth_of q e.from → k < next) → Found S q e.from e.slot e.pairs
found_lower S q m next e small s all =
    let f : e.from < length q = omega (arith, s.before, s.within) in
    let u = s.standing.0 in
    let p : Path S q e.from e.slot = record { within = f; chain = s.chain; last = u.last; exit = u.exit } in
    record {
      path = p;
      number = omega (arith, trail_pairs S q e.from e.slot p, one_of (holder S e.slot) u.filled, s.standing.1);
      small = omega (arith, s.chain.shallow e.from f, s.marks.count, s.standing.1);
      shortest = λ safe. shortest_lower S q e.from e.slot p q
          (explored S q m next (Some e) s (depth_of q e.from) (λ k a b. (all k a (omega arith), λ z. omega arith)))
          safe (λ k a b t v. let w = and_parts (S.allowed (who q k) t) (at false S.slots t) v in (s.led k (all k a b) t w.0 w.1).0) u.filled;
    }

pub past_step : (S : Scene) (q : List Reached) (m : List Bool) (next : ℕ) (low : Option End) → length m ≤ side → next < length q → past q low next ≡ true
    → Searching S q m next low → Ended S q m low
past_step S q m next None small h p s = absurd (both_ways false refl p)
past_step S q m next (Some e) small h p s = found_lower S q m next e small s
    (λ k a b. ⊎_elim (λ c. c) (λ c. absurd (let z : ⊥ = omega (arith, s.order next k c a, ltb-true (depth_of q e.from) (depth_of q next) p) in z)) (cases_lt k next))

stuck : (S : Scene) (q : List Reached) (m : List Bool) (next : ℕ) → length q ≤ next → Searching S q m next None → Stuck S m
stuck S q m next h s = record {
  root = ap (at false m) (sym s.chain.first) ∙ s.marks.member 0 s.chain.some;
  closed = λ x e t o p. let w = s.marks.listed x e in
      let r = s.led w.0 (omega (arith, w.1)) t (ap (λ z. S.allowed z t) w.2 ∙ o) p in
      (r.0, ⊎_elim (λ v. inl (ap (at false m) (sym v.is) ∙ s.marks.member v.place v.within)) (λ v. inr (⊎_elim (λ a. a) (λ a. absurd a) v)) r.1);
  high = λ x e. let w = s.marks.listed x e in ap (λ z. S.reaches z S.root) (sym w.2) ∙ s.chain.high w.0 w.1;
  placed = λ x e n. let w = s.marks.listed x e in ⊎_elim
      (λ p. (via q w.0, s.chain.sits w.0 p w.1 ∙ w.2, (s.chain.joined w.0 p w.1).present))
      (λ p. absurd (n (sym w.2 ∙ ap (who q) (let z : w.0 ≡ 0 = omega arith in z) ∙ s.chain.first)))
      (cases_lt 0 w.0);
}

pub dry : (S : Scene) (q : List Reached) (m : List Bool) (next : ℕ) (low : Option End) → length m ≤ side → length q ≤ next → Searching S q m next low → Ended S q m low
dry S q m next None small h s = record {
  stuck = stuck S q m next h s;
  none = no_path S q (λ L. explored S q m next None s L (λ k a b. (omega arith, λ z. z)));
}
dry S q m next (Some e) small h s = found_lower S q m next e small s (λ k a b. omega arith)
