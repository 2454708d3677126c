-- One walk over a member's slots, step by step.
use Rattle.std.proofs.Common.{◌≡◌, ℕ, zero, suc, ◌+◌, ◌<◌, ◌≤◌, Bool, true, false, List, [], ◌∷◌, ◌++◌, length, get_or, set, Some, None, Option, sym, refl, ap, ◌∙◌, subst, inl, inr, ⊎_elim, arith, length-append, below_more}
use Rattle.std.proofs.lemmas.Bool.{cases_eq, cases_lt, both_ways}
use Rattle.std.proofs.lemmas.List.{get_or_append_left, get_or_push}
use Rattle.search.specs.declared.queue.Reached.{Reached}
use Rattle.refusal.specs.Tables.{at, put}
use Rattle.refusal.proofs.Entries.{length-put, at-put_same, at-put_other}
use Rattle.search.specs.Scene.{Scene}
use Rattle.search.proofs.Asking.{First}
use Rattle.search.specs.Search.{nobody, who, via, parent_of, depth_of, Usable, Chain, Levels, unmarked, Marks, Grown, Shut, Listed, Led, LedBelow, Exit, Fresh, SomeSlot, Unders, Goes, Stops}

-- what one walk keeps true
pub record Looking (S : Scene) (q₀ : List Reached) (m₀ : List Bool) (i : ℕ) (q : List Reached) (m : List Bool) (lower : Option ℕ) (next : ℕ) : Type 0 where
  pub chain : Chain S q
  pub marks : Marks q m
  pub grown : Grown q₀ m₀ q m
  pub levels : Levels q i
  pub led : LedBelow S q (depth_of q₀ i) (SomeSlot lower) (who q₀ i) next
  pub under : Unders S (who q₀ i) lower

unmarked_set : (m : List Bool) (k : ℕ) → k < length m → get_or m k false ≡ false → unmarked (set m k true) + 1 ≡ unmarked m
unmarked_set [] k h e = absurd (let z : ⊥ = omega arith in z)
unmarked_set (true ∷ m) zero h e = absurd (both_ways true e refl)
unmarked_set (false ∷ m) zero h e = omega arith
unmarked_set (true ∷ m) (suc k) h e = unmarked_set m k (omega arith) e
unmarked_set (false ∷ m) (suc k) h e = omega (arith, unmarked_set m k (omega arith) e)

pub unmarked_put : (m : List Bool) (k : ℕ) → 0 < k → k ≤ length m → at false m k ≡ false → unmarked (put m k true) + 1 ≡ unmarked m
unmarked_put m zero h l e = absurd (let z : ⊥ = omega arith in z)
unmarked_put m (suc k) h l e = unmarked_set m k (omega arith) e

-- one more in the queue
module _ (S : Scene) (q : List Reached) (m : List Bool) (i s y : ℕ)
    (c : Chain S q) (k : Marks q m) (f : Fresh S m s y) (ok : S.allowed (who q i) s ≡ true)
    (lv : Levels q i) (i_in : i < length q) (y_in : y ≤ length m) where
  abbrev r : Reached
  r = record { member = y; slot = s; parent = i; depth = depth_of q i + 1 }

  abbrev q' : List Reached
  q' = q ++ r ∷ []

  abbrev m' : List Bool
  m' = put m y true

  longer : length q' ≡ length q + 1
  longer = length-append q (r ∷ [])

  -- what holds of those who were in the queue, and of the new one
  each : (P : ℕ → Type 0) → ((j : ℕ) → j < length q → P j) → P (length q) → (j : ℕ) → j < length q' → P j
  each P old new j h = below_more P (length q) old new j (omega (arith, longer))

  old : (j : ℕ) → j < length q → get_or q' j nobody ≡ get_or q j nobody
  old j h = get_or_append_left q (r ∷ []) nobody j h

  new : get_or q' (length q) nobody ≡ r
  new = get_or_push q r nobody (length q) refl

  p_old : (j : ℕ) → j < length q → who q' j ≡ who q j
  p_old j h = ap (λ (x : Reached). x.member) (old j h)

  p_new : who q' (length q) ≡ y
  p_new = ap (λ (x : Reached). x.member) new

  v_old : (j : ℕ) → j < length q → via q' j ≡ via q j
  v_old j h = ap (λ (x : Reached). x.slot) (old j h)

  v_new : via q' (length q) ≡ s
  v_new = ap (λ (x : Reached). x.slot) new

  u_old : (j : ℕ) → j < length q → parent_of q' j ≡ parent_of q j
  u_old j h = ap (λ (x : Reached). x.parent) (old j h)

  u_new : parent_of q' (length q) ≡ i
  u_new = ap (λ (x : Reached). x.parent) new

  d_old : (j : ℕ) → j < length q → depth_of q' j ≡ depth_of q j
  d_old j h = ap (λ (x : Reached). x.depth) (old j h)

  d_new : depth_of q' (length q) ≡ depth_of q i + 1
  d_new = ap (λ (x : Reached). x.depth) new

  usable_by : (x t x' t' : ℕ) → x' ≡ x → t' ≡ t → Usable S x t → Usable S x' t'
  usable_by x t x' t' p e u =
      let a = u.allowed in let b = u.present in
      record { allowed = ap (λ z. S.allowed z t') p ∙ ap (S.allowed x) e ∙ a; present = ap (at false S.slots) e ∙ b }

  add_chain : Chain S q'
  add_chain = record {
    some = omega (arith, longer);
    first = p_old 0 c.some ∙ c.first;
    number = each (λ j. 0 < who q' j) (λ j h. omega (arith, p_old j h, c.number j h)) (omega (arith, p_new, f.number));
    high = each (λ j. S.reaches (who q' j) S.root ≡ true)
        (λ j h. ap (λ z. S.reaches z S.root) (p_old j h) ∙ c.high j h)
        (ap (λ z. S.reaches z S.root) p_new ∙ f.high);
    unnamed = each (λ j. at 0 S.names (who q' j) ≡ 0)
        (λ j h. ap (at 0 S.names) (p_old j h) ∙ c.unnamed j h)
        (ap (at 0 S.names) p_new ∙ f.unnamed);
    earlier = λ j p h. each (λ j. 0 < j → parent_of q' j < j)
        (λ j h p. omega (arith, u_old j h, c.earlier j p h))
        (λ p. omega (arith, u_new)) j h p;
    joined = λ j p h. each (λ j. 0 < j → Usable S (who q' (parent_of q' j)) (via q' j))
        (λ j h p. usable_by (who q (parent_of q j)) (via q j) (who q' (parent_of q' j)) (via q' j)
        (ap (who q') (u_old j h) ∙ p_old (parent_of q j) (omega (arith, c.earlier j p h))) (v_old j h) (c.joined j p h))
        (λ p. usable_by (who q i) s (who q' (parent_of q' (length q))) (via q' (length q))
        (ap (who q') u_new ∙ p_old i i_in) v_new (record { allowed = ok; present = f.present })) j h p;
    sits = λ j p h. each (λ j. 0 < j → at 0 S.member_in (via q' j) ≡ who q' j)
        (λ j h p. ap (at 0 S.member_in) (v_old j h) ∙ c.sits j p h ∙ sym (p_old j h))
        (λ p. ap (at 0 S.member_in) v_new ∙ f.sits ∙ sym p_new) j h p;
    apart = λ j l p h. each (λ l. (j : ℕ) → j < l → who q' j ≡ who q' l → ⊥)
        (λ l h j p e. c.apart j l p h (sym (p_old j (omega arith)) ∙ e ∙ p_old l h))
        (λ j p e. both_ways (at false m y) f.new
        (ap (at false m) (sym p_new ∙ sym e ∙ p_old j p) ∙ k.member j p)) l h j p;
    top = d_old 0 c.some ∙ c.top;
    deeper = λ j p h. each (λ j. 0 < j → depth_of q' j ≡ depth_of q' (parent_of q' j) + 1)
        (λ j h p. omega (arith, d_old j h, c.deeper j p h, d_old (parent_of q j) (omega (arith, c.earlier j p h)), ap (depth_of q') (u_old j h)))
        (λ p. omega (arith, d_new, ap (depth_of q') u_new, d_old i i_in)) j h p;
    shallow = each (λ j. depth_of q' j ≤ j) (λ j h. omega (arith, d_old j h, c.shallow j h)) (omega (arith, d_new, c.shallow i i_in));
  }

  add_levels : Levels q' i
  add_levels = record {
    order = λ j l p h. each (λ l. (j : ℕ) → j ≤ l → depth_of q' j ≤ depth_of q' l)
        (λ l h j p. omega (arith, d_old l h, d_old j (omega arith), lv.order j l p h))
        (λ j p. ⊎_elim (λ e. omega (arith, d_new, d_old j e, lv.near j e)) (λ e. let z : j ≡ length q = omega arith in omega (arith, ap (depth_of q') z)) (cases_lt j (length q))) l h j p;
    near = each (λ j. depth_of q' j ≤ depth_of q' i + 1)
        (λ j h. omega (arith, d_old j h, d_old i i_in, lv.near j h)) (omega (arith, d_new, d_old i i_in));
  }

  listed_more : (d z : ℕ) → Listed q d z → Listed q' d z
  listed_more d z w = record {
    place = w.place;
    within = omega (arith, longer, w.within);
    is = p_old w.place w.within ∙ w.is;
    depth = omega (arith, d_old w.place w.within, w.depth);
  }

  listed_new : Listed q' (depth_of q i + 1) y
  listed_new = record { place = length q; within = omega (arith, longer); is = p_new; depth = omega (arith, d_new) }

  mark_kept : (z : ℕ) → at false m z ≡ true → at false m' z ≡ true
  mark_kept z h = ⊎_elim
      (λ e. ap (at false m') e ∙ at-put_same false m y true f.number y_in)
      (λ e. at-put_other false m y true z e ∙ h) (cases_eq z y)

  add_marks : Marks q' m'
  add_marks = record {
    member = each (λ j. at false m' (who q' j) ≡ true)
        (λ j h. ap (at false m') (p_old j h) ∙ mark_kept (who q j) (k.member j h))
        (ap (at false m') p_new ∙ at-put_same false m y true f.number y_in);
    listed = λ z h. ⊎_elim
        (λ e. (length q, omega (arith, longer), p_new ∙ sym e))
        (λ e. let w = k.listed z (sym (at-put_other false m y true z e) ∙ h) in
        (w.0, omega (arith, longer, w.1), p_old w.0 w.1 ∙ w.2))
        (cases_eq z y);
    count = omega (arith, longer, k.count, unmarked_put m y f.number y_in f.new, length-put m y true);
  }

  add_grown : (q₀ : List Reached) (m₀ : List Bool) → Grown q₀ m₀ q m → Grown q₀ m₀ q' m'
  add_grown q₀ m₀ w = record {
    more = omega (arith, longer, w.more);
    same = λ j h. p_old j (omega (arith, w.more)) ∙ w.same j h;
    level = λ j h. d_old j (omega (arith, w.more)) ∙ w.level j h;
    kept = λ z h. mark_kept z (w.kept z h);
  }

led_more : (S : Scene) (q q' : List Reached) (d : ℕ) (B B' : Type 0) (x next s : ℕ) → ((z : ℕ) → Listed q (d + 1) z → Listed q' (d + 1) z) → (B → B')
    → LedBelow S q d B x next → First (S.allowed x) next (Some s) → Led S q' d B' s → LedBelow S q' d B' x (s + 1)
led_more S q q' d B B' x next s kept b below f here t h o p = ⊎_elim
    (λ l. let w = below t l o p in (w.0, ⊎_elim (λ e. inl (kept (at 0 S.member_in t) e)) (λ e. inr (⊎_elim (λ a. inl a) (λ a. inr (b a)) e)) w.1))
    (λ l. ⊎_elim
    (λ e. absurd (both_ways (S.allowed x t) (f.2 t l e) o))
    (λ e. let d' : s ≡ t = omega arith in subst (λ (u : ℕ). Led S q' d B' u) d' here p)
    (cases_lt t s))
    (cases_lt t next)

module _ (S : Scene) (q₀ : List Reached) (m₀ : List Bool) (i : ℕ) (q : List Reached) (m : List Bool) (lower : Option ℕ) (next : ℕ)
    (i_in : i < length q₀) (l : Looking S q₀ m₀ i q m lower next) where
  deep_is : depth_of q i ≡ depth_of q₀ i
  deep_is = l.grown.level i i_in

  -- a marked member is in the queue
  marked : (y : ℕ) → at false m y ≡ true → Listed q (depth_of q₀ i + 1) y
  marked y h = let w = l.marks.listed y h in
      record { place = w.0; within = w.1; is = w.2; depth = omega (arith, l.levels.near w.0 w.1, deep_is) }

  pub pass_step : (s : ℕ) → First (S.allowed (who q₀ i)) next (Some s) → Shut S m s → Looking S q₀ m₀ i q m lower (s + 1)
  pass_step s f h = record {
    chain = l.chain;
    marks = l.marks;
    grown = l.grown;
    levels = l.levels;
    under = l.under;
    led = led_more S q q (depth_of q₀ i) (SomeSlot lower) (SomeSlot lower) (who q₀ i) next s (λ z e. e) (λ b. b) l.led f
        (λ p. let w = h p in (w.0, ⊎_elim (λ e. inl (marked (at 0 S.member_in s) e)) (λ e. inr (inl e)) w.1));
  }

  pub lower_step : (s : ℕ) → First (S.allowed (who q₀ i)) next (Some s) → Exit S s × (0 < at 0 S.member_in s) → Looking S q₀ m₀ i q m (Some s) (s + 1)
  lower_step s f h = record {
    chain = l.chain;
    marks = l.marks;
    grown = l.grown;
    levels = l.levels;
    under = record { last = f.1; exit = h.0; filled = h.1 };
    led = led_more S q q (depth_of q₀ i) (SomeSlot lower) (SomeSlot (Some s)) (who q₀ i) next s (λ z e. e) (λ b. tt) l.led f
        (λ p. (h.1, inr (inr tt)));
  }

  still : (s : ℕ) → S.allowed (who q₀ i) s ≡ true → S.allowed (who q i) s ≡ true
  still s o = ap (λ x. S.allowed x s) (l.grown.same i i_in) ∙ o

  pub add_step : (s y d : ℕ) → First (S.allowed (who q₀ i)) next (Some s) → Fresh S m s y → y ≤ length m → d ≡ depth_of q₀ i
      → Looking S q₀ m₀ i (q ++ record { member = y; slot = s; parent = i; depth = d + 1 } ∷ []) (put m y true) lower (s + 1)
  add_step s y d f h y_in e =
      let deep : d ≡ depth_of q i = e ∙ sym deep_is in
      let o = still s f.1 in
      let i_in' : i < length q = omega (arith, l.grown.more) in
      let lv = l.levels in
      rw deep (record {
        chain = add_chain S q m i s y l.chain l.marks h o lv i_in' y_in;
        marks = add_marks S q m i s y l.chain l.marks h o lv i_in' y_in;
        grown = add_grown S q m i s y l.chain l.marks h o lv i_in' y_in q₀ m₀ l.grown;
        levels = add_levels S q m i s y l.chain l.marks h o lv i_in' y_in;
        under = l.under;
        led = led_more S q _ (depth_of q₀ i) (SomeSlot lower) (SomeSlot lower) (who q₀ i) next s
            (λ z e. listed_more S q m i s y l.chain l.marks h o lv i_in' y_in (depth_of q₀ i + 1) z e) (λ b. b) l.led f
            (λ p. (
              omega (arith, h.sits, h.number),
              inl (let w = listed_new S q m i s y l.chain l.marks h o lv i_in' y_in in
                  record { place = w.place; within = w.within; is = w.is ∙ sym h.sits; depth = omega (arith, w.depth, deep_is) }),
            ));
      })

  pub stop_step : (s : ℕ) → S.allowed (who q₀ i) s ≡ true → Exit S s × (at 0 S.member_in s ≡ 0) → Stops S q₀ i s q
  stop_step s o e = record {
    path = record { within = omega (arith, l.grown.more); chain = l.chain; last = still s o; exit = e.0 };
    level = deep_is;
    empty = e.1;
  }

  pub end_step : First (S.allowed (who q₀ i)) next None → Goes S q₀ m₀ i q m lower
  end_step f = record {
    chain = l.chain;
    marks = l.marks;
    grown = l.grown;
    levels = l.levels;
    under = l.under;
    led = λ t o. ⊎_elim (λ h. l.led t h o) (λ h. absurd (both_ways (S.allowed (who q₀ i) t) (f t h) o)) (cases_lt t next);
  }

  -- the queue is shorter than the marks, where one who is not marked is to be added
  pub has_room : (s y : ℕ) → Fresh S m s y → y ≤ length m → length q < length m
  has_room s y f y_in = omega (arith, l.marks.count, unmarked_put m y f.number y_in f.new)
