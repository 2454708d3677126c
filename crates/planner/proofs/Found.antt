-- What a search gave, as a step of a pass.
use Rattle.std.proofs.Common.{◌≡◌, ℕ, zero, suc, ◌<◌, ◌≤◌, Bool, true, false, cond, not, ◌||◌, List, sym, refl, ap, ◌∙◌, ⊎_elim, arith}
use Rattle.std.proofs.lemmas.Bool.{cases_Bool, cases_eq, both_ways, or_left, or_right, or_cases, cond-true, cond-false, not_from_false, not-true}
use Rattle.search.specs.declared.queue.Reached.{Reached}
use Rattle.refusal.specs.Tables.{at}
use Rattle.search.specs.Scene.{Scene, scene, Agrees}
use Rattle.search.specs.Search.{who, via, parent_of, Stuck, Path, Lawful, Kept}
use Rattle.search.proofs.Agreement.{at_pos, mark_pos}
use Rattle.planner.specs.Run.{Setting, stage_of, Clear, Moves}
use Rattle.planner.proofs.Passing.{Ranked, Paired, Dry, Flipped, cases_zero, survives}

pub pairs_of : (slot_of member_in : List ℕ) → Agrees slot_of member_in → Paired (at 0 slot_of) (at 0 member_in)
pairs_of slot_of member_in ag = record { there = ag.there; back = ag.back }

module _ (G : Setting) (slot_of member_in names : List ℕ) (root : ℕ) (ag : Agrees slot_of member_in) (clear : Clear G member_in) (root_free : at false G.members root ≡ true) (root_out : at 0 slot_of root ≡ 0) where
  abbrev S : Scene
  S = scene G.allowed G.slots G.reaches member_in root names

  pub dry_of : (m : List Bool) → Stuck S m → Dry (stage_of G) (at 0 slot_of) (at 0 member_in) (at 0 names) root (at false m)
  dry_of m st = record {
    start = st.root;
    free = λ x r. ⊎_elim (λ e. ap (at false G.members) e ∙ root_free)
        (λ n. let (u, e, h) = st.placed x r n in
        ap (at false G.members) (sym e) ∙ clear u h (let p = mark_pos m x r in omega arith))
        (cases_eq x root);
    high = st.high;
    placed = λ x r o. ⊎_elim (λ e. e)
        (λ n. let (u, e, h) = st.placed x r n in
        let p = mark_pos m x r in
        let u0 : 0 < u = at_pos member_in u (omega arith) in
        let b = ag.back x u p u0 e in
        absurd (let z : ⊥ = omega arith in z))
        (cases_eq x root);
    closed = λ x s r p o. st.closed x r s o p;
  }

  module _ (q : List Reached) (i t : ℕ) (p : Path S q i t) where
    via_open : (k : ℕ) → 0 < k → k ≤ i → at false G.slots (via q k) ≡ true
    via_open k k0 h = (p.chain.joined k k0 (omega arith)).present

    sits_at : (k : ℕ) → 0 < k → k ≤ i → at 0 member_in (via q k) ≡ who q k
    sits_at k k0 h = p.chain.sits k k0 (omega arith)

    num : (k : ℕ) → k ≤ i → 0 < who q k
    num k h = p.chain.number k (omega arith)

    free_at : (k : ℕ) → k ≤ i → at false G.members (who q k) ≡ true
    free_at k h = ⊎_elim
        (λ k0. ap (at false G.members) (sym (sits_at k k0 h)) ∙ clear (via q k) (via_open k k0 h) (omega (arith, sits_at k k0 h, num k h)))
        (λ z. ap (at false G.members) (ap (who q) z ∙ p.chain.first) ∙ root_free)
        (cases_zero k)

    stands_at : (k : ℕ) → 0 < k → k ≤ i → at 0 slot_of (who q k) ≡ via q k
    stands_at k k0 h =
        let e = sits_at k k0 h in
        let n = num k h in
        ag.back (who q k) (via q k) n (at_pos member_in (via q k) (omega arith)) e

    -- what no path from the root comes to
    module _ (K : ℕ → ℕ) (first : (s : ℕ) → at false G.slots s ≡ true → G.allowed root s ≡ true → K s ≡ 0)
        (next : (x s : ℕ) → at false G.members x ≡ true → 0 < at 0 slot_of x → K (at 0 slot_of x) ≡ 0 → at false G.slots s ≡ true → G.allowed x s ≡ true → K s ≡ 0) where
      -- from the place j of the queue
      from_at : (j s : ℕ) → j ≤ i → (0 < j → K (via q j) ≡ 0) → at false G.slots s ≡ true → G.allowed (who q j) s ≡ true → K s ≡ 0
      from_at j s h ih pl o = ⊎_elim
          (λ j0.
          let e = stands_at j j0 h in
          let n = num j h in
          let b = sits_at j j0 h in
          let v0 : 0 < via q j = at_pos member_in (via q j) (omega arith) in
          next (who q j) s (free_at j h) (omega arith) (ap K e ∙ ih j0) pl o)
          (λ z. first s pl (ap (λ x. G.allowed x s) (sym p.chain.first ∙ sym (ap (who q) z)) ∙ o))
          (cases_zero j)

      far_up_to : (n k : ℕ) → k ≤ n → 0 < k → k ≤ i → K (via q k) ≡ 0
      far_up_to zero k h k0 l = absurd (let z : ⊥ = omega arith in z)
      far_up_to (suc n) k h k0 l =
          let pk : parent_of q k < k = p.chain.earlier k k0 (omega arith) in
          from_at (parent_of q k) (via q k) (omega arith) (λ j0. far_up_to n (parent_of q k) (omega arith) j0 (omega arith)) (via_open k k0 l) (p.chain.joined k k0 (omega arith)).allowed

      far_via : (k : ℕ) → 0 < k → k ≤ i → K (via q k) ≡ 0
      far_via k = far_up_to k k (omega arith)

      far_end : K t ≡ 0
      far_end = from_at i t (omega arith) (λ i0. far_via i i0 (omega arith)) p.exit.present p.last

    module _ (slot_of' member_in' : List ℕ) (root_new : at 0 names root ≡ 0) (a : Kept slot_of member_in q i t slot_of' member_in') where
      named_end : at 0 names (at 0 member_in t) ≡ 0
      named_end = ⊎_elim (λ h. p.exit.unnamed h) (λ z. ap (at 0 names) z) (cases_zero (at 0 member_in t))

      -- where a named member stands
      named_place : (u : ℕ) → 0 < at 0 names (at 0 member_in u) → at 0 member_in' u ≡ at 0 member_in u
      named_place = a.rest (λ u. at 0 names (at 0 member_in u)) named_end (λ k k0 h. ap (at 0 names) (sits_at k k0 h) ∙ p.chain.unnamed k (omega arith))

      out_still : (x : ℕ) → (x ≡ root → ⊥) → at 0 slot_of x ≡ 0 → at 0 slot_of' x ≡ 0
      out_still x n e = a.none x (λ d. n (d ∙ p.chain.first)) e

      named_still : (x : ℕ) → 0 < at 0 names x → at 0 slot_of' x ≡ at 0 slot_of x
      named_still x h =
          let x0 = at_pos names x h in
          ⊎_elim
          (λ s0.
          let e : at 0 member_in (at 0 slot_of x) ≡ x = ag.there x (at 0 slot_of x) x0 s0 refl in
          a.agrees.back x (at 0 slot_of x) x0 s0 (named_place (at 0 slot_of x) (omega (arith, ap (at 0 names) e)) ∙ e))
          (λ z. out_still x (λ e. let b = ap (at 0 names) e in let w : ⊥ = omega arith in w) z ∙ sym z)
          (cases_zero (at 0 slot_of x))

      pub flip_of : Flipped (stage_of G) (at 0 slot_of) (at 0 member_in) (at 0 names) root (at 0 slot_of') (at 0 member_in')
      flip_of = record {
        paired = pairs_of slot_of' member_in' a.agrees;
        gains = let e : at 0 slot_of' (who q 0) ≡ at 0 slot_of' root = ap (at 0 slot_of') p.chain.first in omega (arith, a.root);
        slot = t;
        slot_open = p.exit.present;
        lower = p.exit.lower;
        stays = a.stays;
        none = out_still;
        named = named_still;
        filled = a.filled;
        only = a.only;
        far = λ K first next. (far_end K first next, a.rest K (far_end K first next) (far_via K first next));
      }

      unused : ℕ → ℕ
      unused u = cond (at false G.slots u) 0 1

      pub moves_of : Ranked (stage_of G) → Moves G slot_of member_in slot_of' member_in'
      unfolding unused
      moves_of ranked = record {
        agrees = a.agrees;
        still = λ u e. a.rest unused (cond-true (at false G.slots t) 0 1 p.exit.present) (λ k k0 h. cond-true (at false G.slots (via q k)) 0 1 (via_open k k0 h)) u (omega (arith, cond-false {A = ℕ} (at false G.slots u) 0 1 e));
        lawful = λ Q all. a.lawful Q (record {
          end = all (who q i) t (free_at i (omega arith)) p.exit.present p.last;
          step = λ k k0 h. let u = p.chain.joined k k0 (omega arith) in let e = p.chain.earlier k k0 (omega arith) in all (who q (parent_of q k)) (via q k) (free_at (parent_of q k) (omega arith)) u.present u.allowed;
        });
        other = λ order other set. survives (stage_of G) (at 0 slot_of) (at 0 member_in) (at 0 names) root (at 0 slot_of') (at 0 member_in') order other ranked root_free root_out (pairs_of slot_of member_in ag) set flip_of;
      }

-- moves that move nothing, and moves one after another
pub no_moves : (G : Setting) (slot_of member_in : List ℕ) → Agrees slot_of member_in → Moves G slot_of member_in slot_of member_in
no_moves G slot_of member_in ag = record { agrees = ag; still = λ u e. refl; lawful = λ Q all h. h; other = λ order other set. set }

pub more_moves : (G : Setting) (slot_of member_in slot_of' member_in' slot_of'' member_in'' : List ℕ) → Moves G slot_of member_in slot_of' member_in' → Moves G slot_of' member_in' slot_of'' member_in'' → Moves G slot_of member_in slot_of'' member_in''
more_moves G slot_of member_in slot_of' member_in' slot_of'' member_in'' a b = record {
  agrees = b.agrees;
  still = λ u e. b.still u e ∙ a.still u e;
  lawful = λ Q all h. b.lawful Q all (a.lawful Q all h);
  other = λ order other set. b.other order other (a.other order other set);
}

-- moves leave the usable slots clear
pub clear_moves : (G : Setting) (slot_of member_in slot_of' member_in' : List ℕ) → Agrees slot_of member_in → Clear G member_in → Moves G slot_of member_in slot_of' member_in' → Clear G member_in'
clear_moves G slot_of member_in slot_of' member_in' ag clear mv s pl h =
    let s0 = mark_pos G.slots s pl in
    let Q : ℕ → ℕ → Bool = λ x u. at false G.members x || not (at false G.slots u) in
    let was : Lawful Q slot_of = λ x u u0 e. ⊎_elim
    (λ pl_u. ⊎_elim
    (λ x0. let b = ag.there x u x0 u0 e in or_left _ _ (ap (at false G.members) (sym b) ∙ clear u pl_u (omega arith)))
    (λ z. absurd (let c : at 0 slot_of x ≡ 0 = ap (at 0 slot_of) z in let w : ⊥ = omega arith in w))
    (cases_zero x))
    (λ pl_u. or_right _ _ (not_from_false _ pl_u))
    (cases_Bool (at false G.slots u)) in
    let is = mv.lawful Q (λ x u f p o. or_left _ _ f) was (at 0 member_in' s) s s0 (mv.agrees.back (at 0 member_in' s) s h s0 refl) in
    ⊎_elim (λ e. e) (λ e. absurd (both_ways _ (not-true _ e) pl)) (or_cases (at false G.members (at 0 member_in' s)) (not (at false G.slots s)) is)
