-- The walk back along a path, and what the flip leaves.
use Rattle.std.proofs.Common.{◌≡◌, ℕ, zero, suc, ◌+◌, ◌<◌, ◌≤◌, Bool, true, cond, not, eqb, List, ◌∷◌, length, sym, refl, ap, ◌∙◌, ⊎_elim, arith}
use Rattle.std.proofs.lemmas.Bool.{cases_eq, cases_lt, and_from, not_from_false, eq-eqb, ne_eqb, cond-true, cond-false}
use Rattle.search.specs.declared.queue.Reached.{Reached}
use Rattle.refusal.specs.Tables.{at}
use Rattle.search.specs.Scene.{Agrees}
use Rattle.search.specs.Search.{who, via, parent_of, Shape, Steps, Lawful, Kept}
use Rattle.search.specs.Paths.{one, apart, pairs, back, trail}
use Rattle.search.specs.Changes.{changes, given_slot, flipped, Applied}
use Rattle.search.proofs.Counting.{gap_same, gap_other, one_of, one_none, changes_none, changes_one, given_none}
use Rattle.search.proofs.Agreement.{Moved, Freed, at_in, at_pos}

-- what the walk back keeps true: all places of the queue up to k are as they were, and the slot s is empty for the member at k
pub record Walking (slot_of member_in : List ℕ) (q : List Reached) (i t : ℕ) (slot_of' member_in' : List ℕ) (s k : ℕ) : Type 0 where
  pub agrees : Agrees slot_of' member_in'
  pub within : k ≤ i
  pub slot : (0 < s) × (s ≤ length member_in)
  pub empty : at 0 member_in' s ≡ 0
  pub was : (s ≡ t → ⊥) → 0 < at 0 member_in s
  pub still : (j : ℕ) → j ≤ k → at 0 slot_of' (who q j) ≡ at 0 slot_of (who q j)
  pub loses : 0 < at 0 member_in t → at 0 slot_of' (at 0 member_in t) ≡ 0
  pub stays : (x : ℕ) → (x ≡ at 0 member_in t → ⊥) → 0 < at 0 slot_of x → 0 < at 0 slot_of' x
  pub none : (x : ℕ) → at 0 slot_of x ≡ 0 → at 0 slot_of' x ≡ 0
  pub filled : (u : ℕ) → (u ≡ s → ⊥) → 0 < at 0 member_in u → 0 < at 0 member_in' u
  pub only : (u : ℕ) → (u ≡ t → ⊥) → at 0 member_in u ≡ 0 → at 0 member_in' u ≡ 0
  pub end : (s ≡ t → ⊥) → 0 < at 0 member_in' t
  pub lawful : (Q : ℕ → ℕ → Bool) → Steps Q q i t → Lawful Q slot_of → (Q (who q k) s ≡ true) × Lawful Q slot_of'
  pub rest : (K : ℕ → ℕ) → K t ≡ 0 → ((k : ℕ) → 0 < k → k ≤ i → K (via q k) ≡ 0) → (K s ≡ 0) × ((u : ℕ) → 0 < K u → at 0 member_in' u ≡ at 0 member_in u)
  pub slot_len : length slot_of' ≡ length slot_of
  pub member_len : length member_in' ≡ length member_in
  pub moved : (x : ℕ) → given_slot (trail q k s) x (at 0 slot_of' x) ≡ flipped slot_of member_in (trail q i t) x
  pub count : changes (length slot_of) slot_of slot_of' + 1 + pairs member_in (back k q k) ≡ pairs member_in (trail q i t)

module _ (slot_of member_in : List ℕ) (q : List Reached) (i t : ℕ) (ag : Agrees slot_of member_in) (sh : Shape slot_of member_in q i t) where
  v_pos : (k : ℕ) → 0 < k → k ≤ i → 0 < via q k
  v_pos k k0 h = at_pos member_in (via q k) (omega (arith, sh.sits k k0 h, sh.number k h))

  v_in : (k : ℕ) → 0 < k → k ≤ i → via q k ≤ length member_in
  v_in k k0 h = at_in member_in (via q k) (omega (arith, sh.sits k k0 h, sh.number k h))

  -- a member of the path stands where the queue says
  stands : (k : ℕ) → 0 < k → k ≤ i → at 0 slot_of (who q k) ≡ via q k
  stands k k0 h = ag.back (who q k) (via q k) (sh.number k h) (v_pos k k0 h) (sh.sits k k0 h)

  pub prog_in : (k : ℕ) → k ≤ i → who q k ≤ length slot_of
  prog_in zero h = sh.root
  prog_in (suc k) h = at_in slot_of (who q (suc k)) (omega (arith, stands (suc k) (omega arith) h, v_pos (suc k) (omega arith) h))

  -- the bound on the number of steps back does not matter
  back_by : (f g k : ℕ) → k ≤ f → k ≤ g → k ≤ i → back f q k ≡ back g q k
  back_by zero zero zero a b h = refl
  back_by zero (suc g) zero a b h = refl
  back_by (suc f) zero zero a b h = refl
  back_by (suc f) (suc g) zero a b h = refl
  back_by zero g (suc k) a b h = absurd (let z : ⊥ = omega arith in z)
  back_by (suc f) zero (suc k) a b h = absurd (let z : ⊥ = omega arith in z)
  back_by (suc f) (suc g) (suc k) a b h =
      let e = sh.earlier (suc k) (omega arith) h in
      ap (λ (r : List (ℕ × ℕ)). (who q (parent_of q (suc k)), via q (suc k)) ∷ r) (back_by f g (parent_of q (suc k)) (omega arith) (omega arith) (omega arith))

  back_is : (k : ℕ) → 0 < k → k ≤ i → back k q k ≡ trail q (parent_of q k) (via q k)
  back_is zero k0 h = absurd (let z : ⊥ = omega arith in z)
  back_is (suc k) k0 h =
      let e = sh.earlier (suc k) k0 h in
      ap (λ (r : List (ℕ × ℕ)). (who q (parent_of q (suc k)), via q (suc k)) ∷ r) (back_by k (parent_of q (suc k)) (parent_of q (suc k)) (omega arith) (omega arith) (omega arith))

  apart_from : (f k y : ℕ) → k ≤ i → ((j : ℕ) → j < k → who q j ≡ y → ⊥) → apart y (back f q k) ≡ true
  apart_from zero k y h a = refl
  apart_from (suc f) zero y h a = refl
  apart_from (suc f) (suc k) y h a =
      let e = sh.earlier (suc k) (omega arith) h in
      and_from (not (eqb (who q (parent_of q (suc k))) y)) (apart y (back f q (parent_of q (suc k))))
      (not_from_false (eqb (who q (parent_of q (suc k))) y) (ne_eqb (who q (parent_of q (suc k))) y (a (parent_of q (suc k)) e)))
      (apart_from f (parent_of q (suc k)) y (omega arith) (λ j g. a j (omega arith)))

  pub start_walk : (slot_of' member_in' : List ℕ) → Freed t slot_of member_in slot_of' member_in' → Walking slot_of member_in q i t slot_of' member_in' t i
  start_walk slot_of' member_in' f = record {
    agrees = f.agrees;
    within = omega arith;
    slot = sh.slot;
    empty = f.empty;
    was = λ n. absurd (n refl);
    still = λ j h. f.others (who q j) (sh.loser j h);
    loses = f.gone;
    stays = λ x n h. omega (arith, f.others x n);
    none = λ x e. ⊎_elim
        (λ d. ⊎_elim
        (λ p. ap (at 0 slot_of') d ∙ f.gone p)
        (λ p. let z : at 0 member_in t ≡ 0 = omega arith in ap (at 0 slot_of') (d ∙ z))
        (cases_lt 0 (at 0 member_in t)))
        (λ d. f.others x d ∙ e) (cases_eq x (at 0 member_in t));
    filled = λ u n h. omega (arith, f.rest u n);
    only = λ u n e. f.rest u n ∙ e;
    end = λ n. absurd (n refl);
    lawful = λ Q st old. (
      st.end,
      λ x u p e. ⊎_elim
          (λ d. absurd (⊎_elim
          (λ p'. let z : at 0 slot_of' x ≡ 0 = ap (at 0 slot_of') d ∙ f.gone p' in let w : ⊥ = omega arith in w)
          (λ p'. let z : at 0 slot_of' x ≡ 0 = ap (at 0 slot_of') (d ∙ (let y : at 0 member_in t ≡ 0 = omega arith in y)) in let w : ⊥ = omega arith in w)
          (cases_lt 0 (at 0 member_in t))))
          (λ d. old x u p (sym (f.others x d) ∙ e)) (cases_eq x (at 0 member_in t)),
    );
    rest = λ K z far. (z, λ u h. f.rest u (λ e. let a = ap K e in omega arith));
    slot_len = f.slot_len;
    member_len = f.member_len;
    moved = λ x. ap (given_slot (trail q i t) x) (freed_is x);
    count = omega (arith, freed_count);
  }
    where
      freed_is : (x : ℕ) → at 0 slot_of' x ≡ cond (eqb (at 0 member_in t) x) 0 (at 0 slot_of x)
      freed_is x = ⊎_elim
          (λ e. ⊎_elim
          (λ p. ap (at 0 slot_of') (sym e) ∙ f.gone p)
          (λ p. ap (at 0 slot_of') (let z : x ≡ 0 = omega arith in z))
          (cases_lt 0 (at 0 member_in t))
          ∙ sym (cond-true (eqb (at 0 member_in t) x) 0 (at 0 slot_of x) (eq-eqb (at 0 member_in t) x e)))
          (λ n. f.others x (λ e. n (sym e)) ∙ sym (cond-false (eqb (at 0 member_in t) x) 0 (at 0 slot_of x) (ne_eqb (at 0 member_in t) x n)))
          (cases_eq (at 0 member_in t) x)

      freed_count : changes (length slot_of) slot_of slot_of' ≡ one (at 0 member_in t)
      freed_count = ⊎_elim
          (λ p.
          let b = ag.back (at 0 member_in t) t p sh.slot.0 refl in
          let w = at_in slot_of (at 0 member_in t) (omega (arith, sh.slot.0)) in
          let a = changes_one (length slot_of) slot_of slot_of slot_of' (at 0 member_in t) p w (λ y n. f.others y n) in
          let z = changes_none (length slot_of) slot_of slot_of (λ x. refl) in
          let s = gap_same (at 0 slot_of (at 0 member_in t)) (at 0 slot_of (at 0 member_in t)) refl in
          let g = gap_other (at 0 slot_of (at 0 member_in t)) (at 0 slot_of' (at 0 member_in t)) (λ e. omega (arith, f.gone p, sh.slot.0)) in
          let o = one_of (at 0 slot_of (at 0 member_in t)) (omega (arith, sh.slot.0)) in
          let n = one_none (at 0 slot_of' (at 0 member_in t)) (f.gone p) in
          let m = one_of (at 0 member_in t) p in
          omega arith)
          (λ p.
          let e : at 0 member_in t ≡ 0 = omega arith in
          changes_none (length slot_of) slot_of slot_of' (λ x. ⊎_elim (λ d. ap (at 0 slot_of') (d ∙ e) ∙ sym (ap (at 0 slot_of) (d ∙ e))) (λ d. f.others x d) (cases_eq x (at 0 member_in t)))
          ∙ sym (one_none (at 0 member_in t) e))
          (cases_lt 0 (at 0 member_in t))

  module _ (slot_of' member_in' : List ℕ) (s k : ℕ) (w : Walking slot_of member_in q i t slot_of' member_in' s k) (slot_of'' member_in'' : List ℕ) (mv : Moved (who q k) s slot_of' member_in' slot_of'' member_in'') where
    law : (Q : ℕ → ℕ → Bool) → Steps Q q i t → Lawful Q slot_of → Lawful Q slot_of''
    law Q st old x u p e = let l = w.lawful Q st old in ⊎_elim
        (λ d. let a : u ≡ s = sym e ∙ ap (at 0 slot_of'') d ∙ mv.placed in ap (λ z. Q z u) d ∙ ap (Q (who q k)) a ∙ l.0)
        (λ d. l.1 x u p (sym (mv.others x d) ∙ e))
        (cases_eq x (who q k))

    keep : (x : ℕ) → (x ≡ at 0 member_in t → ⊥) → 0 < at 0 slot_of x → 0 < at 0 slot_of'' x
    keep x n h = ⊎_elim
        (λ d. let a : at 0 slot_of'' x ≡ s = ap (at 0 slot_of'') d ∙ mv.placed in omega (arith, w.slot.0))
        (λ d. omega (arith, mv.others x d, w.stays x n h)) (cases_eq x (who q k))

    lost : 0 < at 0 member_in t → at 0 slot_of'' (at 0 member_in t) ≡ 0
    lost h = mv.others (at 0 member_in t) (λ e. sh.loser k w.within (sym e)) ∙ w.loses h

    full : (u : ℕ) → (u ≡ at 0 slot_of' (who q k) → ⊥) → 0 < at 0 member_in u → 0 < at 0 member_in'' u
    full u n h = ⊎_elim
        (λ d. let a : at 0 member_in'' u ≡ who q k = ap (at 0 member_in'') d ∙ mv.filled in omega (arith, sh.number k w.within))
        (λ d. omega (arith, mv.rest u d n, w.filled u d h)) (cases_eq u s)

    bare : (u : ℕ) → (u ≡ t → ⊥) → (u ≡ at 0 slot_of' (who q k) → ⊥) → at 0 member_in u ≡ 0 → at 0 member_in'' u ≡ 0
    bare u n o e = ⊎_elim
        (λ d. absurd (let a : at 0 member_in u ≡ at 0 member_in s = ap (at 0 member_in) d in let z : ⊥ = omega (arith, w.was (λ b. n (d ∙ b))) in z))
        (λ d. mv.rest u d o ∙ w.only u n e) (cases_eq u s)

    t_full : (t ≡ at 0 slot_of' (who q k) → ⊥) → 0 < at 0 member_in'' t
    t_full n = ⊎_elim
        (λ d. let a : at 0 member_in'' t ≡ who q k = ap (at 0 member_in'') d ∙ mv.filled in omega (arith, sh.number k w.within))
        (λ d. omega (arith, mv.rest t d n, w.end (λ b. d (sym b)))) (cases_eq t s)

    -- the pairs that are left, after the move
    next_moved : (x : ℕ) → given_slot (back k q k) x (at 0 slot_of'' x) ≡ flipped slot_of member_in (trail q i t) x
    next_moved x = ⊎_elim
        (λ e. given_none (back k q k) x (at 0 slot_of'' x) (apart_from k k x w.within (λ j h d. sh.apart j k h w.within (d ∙ sym e)))
        ∙ ap (at 0 slot_of'') (sym e) ∙ mv.placed
        ∙ sym (cond-true (eqb (who q k) x) s (given_slot (back k q k) x (at 0 slot_of' x)) (eq-eqb (who q k) x e)) ∙ w.moved x)
        (λ n. ap (given_slot (back k q k) x) (mv.others x (λ e. n (sym e)))
        ∙ sym (cond-false (eqb (who q k) x) s (given_slot (back k q k) x (at 0 slot_of' x)) (ne_eqb (who q k) x n)) ∙ w.moved x)
        (cases_eq (who q k) x)

    -- what the move changes
    next_count : (s ≡ at 0 slot_of (who q k) → ⊥) → changes (length slot_of) slot_of slot_of'' ≡ changes (length slot_of) slot_of slot_of' + one (at 0 slot_of (who q k)) + 1
    next_count n =
        let x = who q k in
        let a = changes_one (length slot_of) slot_of slot_of' slot_of'' x (sh.number k w.within) (prog_in k w.within) (λ y d. mv.others y d) in
        let b = gap_same (at 0 slot_of x) (at 0 slot_of' x) (sym (w.still k (omega arith))) in
        let c = gap_other (at 0 slot_of x) (at 0 slot_of'' x) (λ e. n (sym (e ∙ mv.placed))) in
        let d = one_of (at 0 slot_of'' x) (omega (arith, mv.placed, w.slot.0)) in
        omega arith

    module _ (k0 : 0 < k) where
      left_is : at 0 slot_of' (who q k) ≡ via q k
      left_is = w.still k (omega arith) ∙ stands k k0 w.within

      t_not : t ≡ at 0 slot_of' (who q k) → ⊥
      t_not e = sh.loser k w.within (sym (sh.sits k k0 w.within) ∙ sym (ap (at 0 member_in) (e ∙ left_is)))

      not_here : s ≡ at 0 slot_of (who q k) → ⊥
      not_here e =
          let a : at 0 member_in' (at 0 slot_of' (who q k)) ≡ who q k =
          w.agrees.there (who q k) (at 0 slot_of' (who q k)) (sh.number k w.within) (omega (arith, left_is, v_pos k k0 w.within)) refl in
          let b : at 0 member_in' s ≡ at 0 member_in' (at 0 slot_of' (who q k)) = ap (at 0 member_in') (e ∙ sym (w.still k (omega arith))) in
          omega (arith, w.empty, sh.number k w.within)

      pub walk_step : Walking slot_of member_in q i t slot_of'' member_in'' (via q k) (parent_of q k)
      walk_step =
          let pk : parent_of q k < k = sh.earlier k k0 w.within in
          let ki : k ≤ i = w.within in
          record {
            agrees = mv.agrees;
            within = omega arith;
            slot = (v_pos k k0 ki, v_in k k0 ki);
            empty = ap (at 0 member_in'') (sym left_is) ∙ mv.left (omega (arith, left_is, v_pos k k0 ki));
            was = λ n. omega (arith, sh.sits k k0 ki, sh.number k ki);
            still = λ j h. mv.others (who q j) (sh.apart j k (omega arith) ki) ∙ w.still j (omega arith);
            loses = lost;
            stays = keep;
            none = λ x e. mv.others x (λ d. let a : at 0 slot_of x ≡ at 0 slot_of (who q k) = ap (at 0 slot_of) d in omega (arith, stands k k0 ki, v_pos k k0 ki)) ∙ w.none x e;
            filled = λ u n h. full u (λ e. n (e ∙ left_is)) h;
            only = λ u n e. bare u n (λ d. let a : at 0 member_in u ≡ at 0 member_in (via q k) = ap (at 0 member_in) (d ∙ left_is) in omega (arith, sh.sits k k0 ki, sh.number k ki)) e;
            end = λ n. t_full t_not;
            lawful = λ Q st old. (st.step k k0 ki, law Q st old);
            rest = λ K z far. let r = w.rest K z far in (far k k0 ki, λ u h. mv.rest u (λ e. let a = ap K e in omega (arith, r.0)) (λ e. let a = ap K (e ∙ left_is) in omega (arith, far k k0 ki)) ∙ r.1 u h);
            slot_len = mv.slot_len ∙ w.slot_len;
            member_len = mv.member_len ∙ w.member_len;
            moved = λ x. ap (λ (r : List (ℕ × ℕ)). given_slot r x (at 0 slot_of'' x)) (sym (back_is k k0 ki)) ∙ next_moved x;
            count =
                let a = next_count not_here in
                let b = one_of (at 0 slot_of (who q k)) (omega (arith, stands k k0 ki, v_pos k k0 ki)) in
                let c = ap (pairs member_in) (back_is k k0 ki) in
                let d = one_of (at 0 member_in (via q k)) (omega (arith, sh.sits k k0 ki, sh.number k ki)) in
                omega (arith, w.count);
          }

    module _ (k0 : k ≡ 0) where
      none_left : at 0 slot_of' (who q k) ≡ 0
      none_left = w.still k (omega arith) ∙ ap (λ j. at 0 slot_of (who q j)) k0 ∙ sh.unplaced

      root_is : who q k ≡ who q 0
      root_is = ap (who q) k0

      last_kept : Kept slot_of member_in q i t slot_of'' member_in''
      last_kept = record {
        agrees = mv.agrees;
        root = let a : at 0 slot_of'' (who q 0) ≡ s = ap (at 0 slot_of'') (sym root_is) ∙ mv.placed in omega (arith, w.slot.0);
        loses = lost;
        stays = keep;
        none = λ x n e. mv.others x (λ d. n (d ∙ root_is)) ∙ w.none x e;
        filled = λ u h. full u (λ e. let p = at_pos member_in u h in omega (arith, none_left)) h;
        only = λ u n e. ⊎_elim (λ d. ap (at 0 member_in'') d) (λ d. bare u n (λ b. d (b ∙ none_left)) e) (cases_eq u 0);
        end = t_full (λ e. omega (arith, none_left, sh.slot.0));
        lawful = law;
        rest = λ K z far u h. let r = w.rest K z far in ⊎_elim (λ d. ap (at 0 member_in'') d ∙ sym (ap (at 0 member_in) d)) (λ d. mv.rest u (λ e. let a = ap K e in omega (arith, r.0)) (λ e. d (e ∙ none_left)) ∙ r.1 u h) (cases_eq u 0);
      }

      pub last_step : Applied slot_of member_in q i t slot_of'' member_in''
      last_step = record {
        kept = last_kept;
        flip = λ x. ap (λ (r : List (ℕ × ℕ)). given_slot r x (at 0 slot_of'' x)) (sym (ap (λ j. back j q j) k0)) ∙ next_moved x;
        number =
            let z : at 0 slot_of (who q k) ≡ 0 = ap (at 0 slot_of) root_is ∙ sh.unplaced in
            let a = next_count (λ e. omega (arith, w.slot.0)) in
            let b = one_none (at 0 slot_of (who q k)) z in
            let c : pairs member_in (back k q k) ≡ 0 = ap (λ j. pairs member_in (back j q j)) k0 in
            omega (arith, w.count);
      }
