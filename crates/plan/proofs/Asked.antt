-- What the questions tell, from what stands in the tables.
use Rattle.std.proofs.Common.{◌≡◌, ℕ, zero, suc, ◌≤◌, Bool, true, not, ◌&&◌, eqb, leb, List, length, Some, None, Option, sym, refl, ap, ◌∙◌, arith}
use Rattle.std.proofs.lemmas.Bool.{and_parts, eqb-true, leb-true, ne_eqb}
use Rattle.std.specs.Bool.{then_some}
use Rattle.refusal.specs.Limits.{side}
use Rattle.refusal.specs.Counting.{count}
use Rattle.refusal.specs.Refusals.{first_refusal}
use Rattle.refusal.specs.Tables.{at, item, both}
use Rattle.refusal.proofs.Counts.{count_same}
use Rattle.source.specs.Pairs.{Pairs}
use Rattle.matching.specs.Board.{Board, Plan, turned, programme_in, placed, filled}
use Rattle.matching.specs.Lists.{plan_of, Points, number_or_none}
use Rattle.matching.proofs.Lists.{plan_turned, placed_is, first_is}
use Rattle.plan.specs.declared.Member.{Member}
use Rattle.plan.specs.declared.Member.TheVariants.{Programme, Slot}
use Rattle.plan.specs.Held.{Held, place_of}
use Rattle.plan.specs.Counting.{counted_of, counted}
use Rattle.plan.specs.Parts.{parts_fit, fits, board_of, place_told, whole_refusals}

-- where the parts fit together, a question about the whole plan is not refused
pub accepted_whole : (fit : Bool) → true ≡ fit → None ≡ first_refusal (whole_refusals fit)
accepted_whole fit a = rw (sym a) refl

-- a place that is not 0
pub some_place : (place : ℕ) → then_some (not (eqb place 0)) place ≡ number_or_none place
some_place zero = refl
some_place (suc k) = ap (λ b. then_some (not b) (suc k)) (ne_eqb (suc k) 0 (λ z. omega arith))

module _ {P : Type 0} (pairs : Pairs) (xs ys : List P) (h : Held) (ok : true ≡ fits pairs xs ys h) where
  -- what fits has these counts
  pub fit_counts : (length h.slot_of ≡ length xs) × (length h.programme_in ≡ length ys) × (pairs.programmes ≡ length xs) × (pairs.slots ≡ length ys) × (length xs ≤ side) × (length ys ≤ side)
  fit_counts =
      let (parts, counts) = and_parts (parts_fit pairs xs ys) _ (sym ok) in
      let (n-side, p1) = and_parts (leb pairs.programmes side) _ parts in
      let (m-side, p2) = and_parts (leb pairs.slots side) _ p1 in
      let (xs-n, ys-m) = and_parts (eqb (length xs) pairs.programmes) _ p2 in
      let (n, m) = and_parts (eqb (length h.slot_of) pairs.programmes) _ counts in
      let a = eqb-true _ _ xs-n in
      let b = eqb-true _ _ ys-m in
      (eqb-true _ _ n ∙ sym a, eqb-true _ _ m ∙ sym b, sym a, sym b, omega (arith, leb-true _ _ n-side), omega (arith, leb-true _ _ m-side))

  module _ (reaches : P → P → Bool) (there : Points h.slot_of h.programme_in) (back : Points h.programme_in h.slot_of) where
    abbrev board : Board reaches
    board = board_of reaches pairs xs ys h.attendance

    abbrev plan : Plan
    plan = plan_of h.slot_of

    -- a place that was read is what the board tells
    pub tell_place : (member : Member) (place : ℕ) → place ≡ place_of h member → number_or_none place ≡ place_told board plan member
    tell_place (Programme i) place e = ap number_or_none e ∙ sym (first_is h.slot_of h.programme_in there (length ys) fit_counts.1 i)
    tell_place (Slot s) place e =
        ap number_or_none e ∙ sym (first_is h.programme_in h.slot_of back (length xs) fit_counts.0 s)
        ∙ ap {B = Option ℕ} (λ q. programme_in board (turned q) s) (sym (plan_turned h.slot_of h.programme_in there back))

    -- those with an entry, by a question about their priorities: the placed programmes, and the filled slots
    placed_count : (question : P → P → Bool) (p : P) (k : ℕ) → k ≡ counted_of question xs h.slot_of p → k ≡ count (λ i. placed board plan i && both question (item xs i) (Some p)) (length xs)
    placed_count question p k e = e ∙ sym (count_same _ _ (length xs) (λ i w. ap (λ b. b && both question (item xs i) (Some p)) (placed_is h.slot_of h.programme_in there (length ys) fit_counts.1 i)))

    filled_is : (s : ℕ) → filled board plan s ≡ not (eqb (at 0 h.programme_in s) 0)
    filled_is s =
        ap {B = Bool} (λ q. filled board (turned q) s) (plan_turned h.slot_of h.programme_in there back)
        ∙ placed_is h.programme_in h.slot_of back (length xs) fit_counts.0 s

    filled_count : (question : P → P → Bool) (p : P) (k : ℕ) → k ≡ counted_of question ys h.programme_in p → k ≡ count (λ s. filled board plan s && both question (item ys s) (Some p)) (length ys)
    filled_count question p k e = e ∙ sym (count_same _ _ (length ys) (λ s w. ap (λ b. b && both question (item ys s) (Some p)) (filled_is s)))

    pub tell_counts : (question : P → P → Bool) (p : P) (k m : ℕ) → k ≡ counted_of question xs h.slot_of p → m ≡ counted_of question ys h.programme_in p → (k, m) ≡ counted board plan question p
    tell_counts question p k m a b =
        let x = placed_count question p k a in
        let y = filled_count question p m b in
        λ i. (x i, y i)
