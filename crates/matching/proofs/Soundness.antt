-- A plan that passes with a certificate is best: the counting argument.
use Rattle.std.proofs.Common.{◌≡◌, ℕ, ◌≤◌, Bool, true, false, not, ◌&&◌, eqb, ◌≢◌, ◌⊎◌, Some, None, Option, sym, refl, ◌∙◌, inl, inr, arith}
use Rattle.std.proofs.lemmas.Bool.{cases_Bool, and_parts, and_from, not-true, not_from_false, both_ways, eqb-false, ne_eqb, false≢true}
use Rattle.refusal.specs.Counting.{any, within}
use Rattle.refusal.specs.Tables.{item, both}
use Rattle.refusal.proofs.Counts.{any_some, any_here, within_bounds, count_relate}
use Rattle.priority.specs.Order.{Ordered}
use Rattle.matching.specs.Board.{Board, Plan, size, attends, ranks, turn, turned, free, slot_free, may_run, Lawful, placed, tally}
use Rattle.matching.specs.Certificate.{Rules, blocks, PassingIsBest}

module _ {P : Type 0} {reaches : P → P → Bool} (board : Board reaches) where
  -- the parts of `may_run`
  pub may_run_parts : (i s : ℕ) → may_run board i s ≡ true → (attends board.programmes i ≡ true) × (attends board.slots s ≡ true) × (board.allowed i s ≡ true)
  may_run_parts i s h =
      let (a, r) = and_parts (attends board.programmes i) (attends board.slots s && board.allowed i s) h in
      let (b, c) = and_parts (attends board.slots s) (board.allowed i s) r in
      (a, b, c)

  pub may_run_turned : (i s : ℕ) → may_run board i s ≡ true → may_run (turn board) s i ≡ true
  may_run_turned i s h =
      let (a, b, c) = may_run_parts i s h in
      and_from (attends board.slots s) (attends board.programmes i && board.allowed i s) b (and_from (attends board.programmes i) (board.allowed i s) a c)

  pub lawful_turned : (plan : Plan) → Lawful board plan → Lawful (turn board) (turned plan)
  lawful_turned plan h = record {
    fits = λ s i e. may_run_turned i s (h.fits i s e);
    one_slot = λ s i j. h.one_programme i j s;
    one_programme = λ s t i. h.one_slot i s t;
    keeps = λ s i. h.keeps i s;
  }

pub false_if_not : (b : Bool) → (b ≡ true → ⊥) → b ≡ false
false_if_not true h = absurd (h refl)
false_if_not false h = refl

true_if_not : (b : Bool) → (b ≡ false → ⊥) → b ≡ true
true_if_not true h = refl
true_if_not false h = absurd (h refl)

some_name : (w : ℕ) → not (eqb w 0) ≡ true → w ≢ 0
some_name w h = eqb-false w 0 (not-true (eqb w 0) h)

name_some : (w : ℕ) → w ≢ 0 → not (eqb w 0) ≡ true
name_some w h = not_from_false (eqb w 0) (ne_eqb w 0 h)

both_transitive : {P : Type 0} {reaches : P → P → Bool} → Ordered reaches → (a b c : Option P) → both reaches a b ≡ true → both reaches b c ≡ true → both reaches a c ≡ true
both_transitive ordered None b c h k = h
both_transitive ordered (Some a) None c h k = absurd (false≢true h)
both_transitive ordered (Some a) (Some b) None h k = k
both_transitive ordered (Some a) (Some b) (Some c) h k = ordered.transitive a b c h k

-- x names one of priority p or higher
abbrev wanting : {P : Type 0} {reaches : P → P → Bool} → Board reaches → (ℕ → ℕ) → P → ℕ → Bool
wanting {reaches} board names p x = not (eqb (names x) 0) && ranks reaches board.programmes p (names x)

module _ {P : Type 0} {reaches : P → P → Bool} (ordered : Ordered reaches) (board : Board reaches) (plan : Plan) (names : ℕ → ℕ) (lawful : Lawful board plan) (rules : Rules board plan names) (p : P) (other : Plan) (other-lawful : Lawful board other) where
  -- one that wants is tied to the programme that our plan has in its slot of the other plan; any other to itself
  Tied : ℕ → ℕ → Type 0
  Tied x y =
      ((wanting board names p x ≡ true) × (wanting board names p y ≡ true) × ((s : ℕ) × (other x s ≡ true) × (plan y s ≡ true)))
      ⊎ ((wanting board names p x ≡ false) × (x ≡ y))

  -- no two are tied to one
  apart : (x z y : ℕ) → Tied x y → Tied z y → x ≡ z
  unfolding Tied
  apart x z y (inl a) (inl b) =
      let (s, other-x, plan-y) = a.2 in
      let (t, other-z, plan-y-too) = b.2 in
      let same : s ≡ t = lawful.one_slot y s t plan-y plan-y-too in
      other-lawful.one_programme x z t (rw same at other-x) other-z
  apart x z y (inl a) (inr b) = absurd (both_ways (wanting board names p y) (rw b.1 at b.0) a.1)
  apart x z y (inr a) (inl b) = absurd (both_ways (wanting board names p y) (rw a.1 at a.0) b.1)
  apart x z y (inr a) (inr b) = a.1 ∙ sym b.1

  -- a slot that the other plan gives to a free programme is free
  slot_of_free : (x s : ℕ) → free board x ≡ true → other x s ≡ true → slot_free board s ≡ true
  slot_of_free x s x-free other-x =
      let (x-here, s-here, x-s) = may_run_parts board x s (other-lawful.fits x s other-x) in
      let in-s = (and_parts (within (size board.slots) s) (board.slots.present s) s-here).0 in
      let x-unlocked = not-true (any (board.locked x) (size board.slots)) (and_parts (attends board.programmes x) (not (any (board.locked x) (size board.slots))) x-free).1 in
      let locked-s : ℕ → Bool = λ i. board.locked i s in
      and_from (attends board.slots s) (not (any locked-s (size board.programmes))) s-here
      (not_from_false (any locked-s (size board.programmes)) (false_if_not _ λ s-locked.
      let (j, in-j, j-locked) = any_some locked-s (size board.programmes) s-locked in
      let same = other-lawful.one_programme j x s (other-lawful.keeps j s j-locked) other-x in
      both_ways _ x-unlocked (any_here (board.locked x) (size board.slots) s in-s (rw same at j-locked))))

  -- a present programme that our plan leaves out is free: what is locked is placed
  free_unplaced : (x : ℕ) → attends board.programmes x ≡ true → placed board plan x ≡ false → free board x ≡ true
  free_unplaced x x-here x-unplaced =
      and_from (attends board.programmes x) (not (any (board.locked x) (size board.slots))) x-here
      (not_from_false (any (board.locked x) (size board.slots)) (false_if_not _ λ x-locked.
      let (s, in-s, locked-s) = any_some (board.locked x) (size board.slots) x-locked in
      both_ways _ x-unplaced (any_here (plan x) (size board.slots) s in-s (lawful.keeps x s locked-s))))

  prio : ℕ → Option P
  prio = item board.programmes.priorities

  Goal : ℕ → Type 0
  Goal x = (y : ℕ) × (within (size board.programmes) y ≡ true) × ((placed board plan y && ranks reaches board.programmes p y) ≡ true) × Tied x y

  -- one that wants: the programme in its slot
  displaced : (x s : ℕ) → within (size board.programmes) x ≡ true → within (size board.slots) s ≡ true → other x s ≡ true → wanting board names p x ≡ true → Goal x
  unfolding Tied Goal prio
  displaced x s in-x in-s other-x wants =
      let (x-names, w-high) = and_parts (not (eqb (names x) 0)) (both reaches (prio (names x)) (Some p)) wants in
      let naming = rules.naming x in-x (some_name (names x) x-names) in
      let x-s = (may_run_parts board x s (other-lawful.fits x s other-x)).2 in
      let (y, in-y, held) = any_some (blocks board plan names (names x) s) (size board.programmes) (naming.blocked s (slot_of_free x s naming.namer_free other-x) x-s) in
      let (plan-y, y-rest) = and_parts (plan y s) _ held in
      let (y-names, v_above) = and_parts (not (eqb (names y) 0)) _ y-rest in
      let v_high = both_transitive ordered (prio (names y)) (prio (names x)) (Some p) v_above w-high in
      let y-high = both_transitive ordered (prio y) (prio (names y)) (Some p) (rules.naming y in-y (some_name (names y) y-names)).namer_as_high v_high in (
        y,
        in-y,
        and_from (placed board plan y) (both reaches (prio y) (Some p)) (any_here (plan y) (size board.slots) s in-s plan-y) y-high,
        inl (wants, and_from (not (eqb (names y) 0)) (both reaches (prio (names y)) (Some p)) y-names v_high, (s, other-x, plan-y)),
      )

  -- one that does not want is placed: left out, it would name itself
  kept : (x : ℕ) → within (size board.programmes) x ≡ true → attends board.programmes x ≡ true → ranks reaches board.programmes p x ≡ true → wanting board names p x ≡ false → placed board plan x ≡ true
  kept x in-x x-here x-high not-wants = true_if_not _ λ x-unplaced.
      let itself = rules.unplaced x (free_unplaced x x-here x-unplaced) x-unplaced in
      let some : not (eqb (names x) 0) ≡ true = name_some (names x) (omega (arith, within_bounds _ x in-x)) in
      let high : ranks reaches board.programmes p (names x) ≡ true = rw itself x-high in
      both_ways _ not-wants (and_from _ _ some high)

  to : (x : ℕ) → within (size board.programmes) x ≡ true → (placed board other x && ranks reaches board.programmes p x) ≡ true → Goal x
  unfolding Goal Tied
  to x in-x f-x =
      let (other-placed, x-high) = and_parts (placed board other x) (ranks reaches board.programmes p x) f-x in
      let (s, in-s, other-x) = any_some (other x) (size board.slots) other-placed in
      elim (cases_Bool (wanting board names p x)) [
        | inl wants ↦ displaced x s in-x in-s other-x wants
        | inr not-wants ↦
            let x-here = (may_run_parts board x s (other-lawful.fits x s other-x)).0 in
            (x, in-x, and_from (placed board plan x) (ranks reaches board.programmes p x) (kept x in-x x-here x-high not-wants) x-high, inr (not-wants, refl))
      ]

  pub placed_most : (tally board other p).0 ≤ (tally board plan p).0
  unfolding Goal
  placed_most = count_relate _ _ (size board.programmes) (size board.programmes) Tied to apart

pub passing_is_best : {P : Type 0} {reaches : P → P → Bool} → Ordered reaches → PassingIsBest reaches
passing_is_best ordered board plan certificate passes = record {
  lawful = passes.lawful;
  programmes = λ p other h. placed_most ordered board plan certificate.programmes passes.lawful passes.programmes p other h;
  slots = λ p other h. placed_most ordered (turn board) (turned plan) certificate.slots (lawful_turned board plan passes.lawful) passes.slots p (turned other) (lawful_turned board other h);
}
