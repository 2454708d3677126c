-- Whom `highest` answers, where the marks are those who wait.
use Rattle.std.proofs.Common.{◌≡◌, ℕ, zero, suc, ◌+◌, ◌≤◌, Bool, true, false, List, length, Some, None, Option, sym, ap, ◌∙◌, subst, ⊎_elim, add-one, arith}
use Rattle.std.proofs.lemmas.Bool.{cases_Bool, both_ways, and_parts, not-true, eqb-false}
use Rattle.refusal.specs.Counting.{within}
use Rattle.refusal.specs.Tables.{at, holds_at}
use Rattle.refusal.proofs.Counts.{within_bounds, within_from}
use Rattle.refusal.proofs.First.{first_some}
use Rattle.priority.specs.Order.{Ordered}
use Rattle.priority.specs.Places.{marked, is_highest, highest, kept_place}
use Rattle.priority.proofs.Highest.{Among, Best, best_none, best_skip, best_look, best_found}
use Rattle.search.proofs.Agreement.{at_in, mark_in, mark_pos}
use Rattle.planner.specs.Run.{waiting, Choice}

module _ {P : Type 0} {reaches : P → P → Bool} (laws : Ordered reaches) (table : List P) (marks : List ℕ) where
  -- of the first n places one is the best, or none counts
  some_best : (n : ℕ) → (r : Option ℕ) × Best reaches table marks n r
  some_best zero = (None, best_none reaches table marks)
  some_best (suc n) =
      let before = some_best n in
      let skip : (Among table marks (n + 1) (n + 1) → ⊥) → (r : Option ℕ) × Best reaches table marks (n + 1) r = λ out. (before.0, best_skip reaches table marks n before.0 out before.1) in
      let now : (r : Option ℕ) × Best reaches table marks (n + 1) r =
      ⊎_elim
      (λ (w : within (length table) (n + 1) ≡ true).
      ⊎_elim
      (λ (m : marked marks (n + 1) ≡ true). (
        kept_place reaches table before.0 (n + 1),
        best_look reaches table marks laws n before.0 (record { before = omega arith; there = w; mark = m }) before.1,
      ))
      (λ (m : marked marks (n + 1) ≡ false). skip (λ a. both_ways _ m a.mark))
      (cases_Bool (marked marks (n + 1))))
      (λ (w : within (length table) (n + 1) ≡ false). skip (λ a. both_ways _ w a.there))
      (cases_Bool (within (length table) (n + 1))) in
      subst (λ (k : ℕ). (r : Option ℕ) × Best reaches table marks k r) (add-one n) now

  highest_best : Best reaches table marks (length marks) (highest reaches table marks)
  highest_best =
      let r = some_best (length marks) in
      subst (λ (o : Option ℕ). Best reaches table marks (length marks) o) (best_found reaches table marks r.0 r.1) r.1

  module _ (waits : ℕ → Bool) (inside : (k : ℕ) → waits k ≡ true → within (length table) k ≡ true) (same : (k : ℕ) → within (length table) k ≡ true → marked marks k ≡ waits k) where
    among : (k : ℕ) → waits k ≡ true → Among table marks (length marks) k
    among k w =
        let m : marked marks k ≡ true = same k (inside k w) ∙ w in
        let n : at 0 marks k ≡ 0 → ⊥ = eqb-false (at 0 marks k) 0 (not-true _ m) in
        record { before = at_in marks k (omega arith); there = inside k w; mark = m }

    choice_best : (r : Option ℕ) → Best reaches table marks (length marks) r → Choice (holds_at reaches table) waits r
    choice_best None t = λ y. ⊎_elim (λ (w : waits y ≡ true). absurd (t y (among y w))) (λ (w : waits y ≡ false). w) (cases_Bool (waits y))
    choice_best (Some root) t = (sym (same root t.0.there) ∙ t.0.mark, λ y w. t.1 y (among y w))

    pub choice_of : (r : Option ℕ) → r ≡ highest reaches table marks → Choice (holds_at reaches table) waits r
    choice_of r e = choice_best r (subst (λ (o : Option ℕ). Best reaches table marks (length marks) o) (sym e) highest_best)

-- what the marks must be for `choose`
module _ {P : Type 0} {reaches : P → P → Bool} (laws : Ordered reaches) (ranking : List P) (present done : List Bool) (slot_of marks : List ℕ) (len : length present ≡ length ranking) (room : length ranking ≤ length marks) where
  inside_of : (k : ℕ) → waiting present slot_of done k ≡ true → within (length ranking) k ≡ true
  inside_of k w =
      let h = (and_parts (at false present k) _ w).0 in
      let b = mark_in present k h in
      within_from (length ranking) k (mark_pos present k h) (omega arith)

  wider : (k : ℕ) → within (length ranking) k ≡ true → within (length marks) k ≡ true
  wider k w = let b = within_bounds (length ranking) k w in within_from (length marks) k b.0 (omega arith)

  pub chosen_of : (present' : List Bool) (slot_of' : List ℕ) → present' ≡ present → slot_of' ≡ slot_of → ((k : ℕ) → within (length marks) k ≡ true → marked marks k ≡ waiting present' slot_of' done k)
      → (r : Option ℕ) → r ≡ highest reaches ranking marks → Choice (holds_at reaches ranking) (waiting present slot_of done) r
  chosen_of present' slot_of' e f same r h =
      choice_of laws ranking marks (waiting present slot_of done) inside_of
      (λ k w. same k (wider k w) ∙ ap (λ (m : List Bool). waiting m slot_of' done k) e ∙ ap (λ (s : List ℕ). waiting present s done k) f) r h

-- a place that is highest is one of the table
pub highest_in : {P : Type 0} (reaches : P → P → Bool) (table : List P) (marks : List ℕ) (k : ℕ) → Some k ≡ highest reaches table marks → k ≤ length table
highest_in reaches table marks k e = (first_some (is_highest reaches table marks) (length table) 1 k (sym e)).1
