-- What the loops of a pass keep true.
use Rattle.std.proofs.Common.{◌≡◌, ℕ, zero, suc, ◌+◌, ◌<◌, ◌≤◌, Bool, true, false, cond, not, ◌&&◌, eqb, List, length, get_or, Some, None, sym, refl, ap, ◌∙◌, ⊎_elim, arith}
use Rattle.std.proofs.lemmas.Bool.{cases_Bool, cases_eq, cases_lt, both_ways, and_parts, and_from, and_left, and_right, eqb-true, eq-eqb, ne_eqb, not-true, not_from_false, cond-true, cond-false}
use Rattle.std.proofs.lemmas.List.{get_or_past}
use Rattle.refusal.specs.Counting.{count}
use Rattle.refusal.specs.Tables.{at, put, holds_at}
use Rattle.refusal.proofs.Counts.{within_from, none_if, without, without_same, without_other, count_same, count-without}
use Rattle.refusal.proofs.Entries.{at-put_same, at-put_other}
use Rattle.priority.specs.Order.{Ordered}
use Rattle.priority.proofs.Compare.{place_other, place_transitive}
use Rattle.search.specs.Search.{unmarked}
use Rattle.search.proofs.Agreement.{mark_pos, mark_in}
use Rattle.search.proofs.Looking.{unmarked_put}
use Rattle.planner.specs.Pass.{Chosen, Renamed}
use Rattle.planner.specs.Run.{Setting, setting, stage_of, StateOf, ChosenOf, Clear, Moves, Advanced, waiting, Choice}
use Rattle.planner.proofs.Passing.{Ranked, Done}
use Rattle.planner.proofs.Found.{more_moves, clear_moves}

-- the order of a pass, from the laws of a kind of priority
pub ranked_of : {P : Type 0} {reaches : P → P → Bool} → Ordered reaches → (priorities : List P) (allowed : ℕ → ℕ → Bool) (members slots : List Bool) → length members ≡ length priorities
    → Ranked (stage_of (setting allowed (holds_at reaches priorities) members slots))
ranked_of {P} {reaches} laws priorities allowed members slots len = record {
  total = λ a b fa fb h.
      let al = mark_in members a fa in
      let bl = mark_in members b fb in
      place_other laws priorities a b (within_from _ a (mark_pos members a fa) (omega arith)) (within_from _ b (mark_pos members b fb) (omega arith)) h;
  transitive = place_transitive laws priorities;
  member = mark_pos members;
  number = mark_pos slots;
}

-- a choice is the next root, and with none left all are done
pub choice_root : (G : Setting) (slot_of : List ℕ) (done : List Bool) (root : ℕ) → Choice G.reaches (waiting G.members slot_of done) (Some root) → Chosen (stage_of G) (at 0 slot_of) (at false done) root
choice_root G slot_of done root h =
    let (free, rest) = and_parts (at false G.members root) _ h.0 in
    let (out, new) = and_parts (eqb (at 0 slot_of root) 0) (not (at false done root)) rest in
    record {
      free = free;
      out = eqb-true _ _ out;
      new = not-true _ new;
      highest = λ y f o d. h.1 y (and_from _ _ f (and_from _ _ (eq-eqb _ _ o) (not_from_false _ d)));
    }

pub none_left : (G : Setting) (slot_of : List ℕ) (done : List Bool) → Choice G.reaches (waiting G.members slot_of done) None → (x : ℕ) → at false G.members x ≡ true → at 0 slot_of x ≡ 0 → at false done x ≡ true
none_left G slot_of done h x f o = ⊎_elim (λ e. e)
    (λ e. absurd (both_ways (waiting G.members slot_of done x) (h x) (and_from _ _ f (and_from _ _ (eq-eqb _ _ o) (not_from_false _ e)))))
    (cases_Bool (at false done x))

-- how far the names are given
pub record Naming (old : List ℕ) (marks : List Bool) (root i : ℕ) (names : List ℕ) : Type 0 where
  pub given : (k : ℕ) → k < i → get_or names k 0 ≡ cond (get_or marks k false && eqb (get_or old k 0) 0) root (get_or old k 0)
  pub later : (k : ℕ) → i ≤ k → get_or names k 0 ≡ get_or old k 0

pub done_put : (done : List Bool) (root : ℕ) → 0 < root → root ≤ length done → Done (at false done) (at false (put done root true)) root
done_put done root r0 rl = record { here = at-put_same false done root true r0 rl; others = λ x n. at-put_other false done root true x n }

-- all names are given
module _ (old : List ℕ) (marks : List Bool) (root i : ℕ) (names : List ℕ) (all : length old ≤ i) (few : (x : ℕ) → at false marks x ≡ true → x ≤ length old) (same : length names ≡ length old) (nm : Naming old marks root i names) where
  unmarked_past : (k : ℕ) → length old ≤ k → get_or marks k false ≡ false
  unmarked_past k h = ⊎_elim (λ (e : get_or marks k false ≡ true). absurd (let b = few (suc k) e in let z : ⊥ = omega arith in z)) (λ (e : get_or marks k false ≡ false). e) (cases_Bool (get_or marks k false))

  name_is : (x : ℕ) → at 0 names x ≡ cond (at false marks x && eqb (at 0 old x) 0) root (at 0 old x)
  name_is zero = refl
  name_is (suc k) = ⊎_elim (λ l. nm.given k l)
      (λ l. get_or_past names k 0 (omega arith) ∙ sym (cond-false (get_or marks k false && eqb (get_or old k 0) 0) root (get_or old k 0) (and_left _ _ (unmarked_past k (omega arith))) ∙ get_or_past old k 0 (omega arith)))
      (cases_lt k i)

  pub renamed_end : Renamed (at 0 old) (at 0 names) root (at false marks)
  renamed_end = record {
    before = λ x h. name_is x ∙ cond-false _ _ _ (and_right (at false marks x) _ (ne_eqb (at 0 old x) 0 (λ e. let z : ⊥ = omega arith in z)));
    now = λ x z r. name_is x ∙ cond-true _ _ _ (and_from _ _ r (eq-eqb _ _ z));
    never = λ x z r. name_is x ∙ cond-false _ _ _ (and_left _ _ r) ∙ z;
  }

-- what the loop of a pass keeps true
pub record Going (G : Setting) (slot_of member_in slot_of' member_in' names : List ℕ) (done : List Bool) : Type 0 where
  pub moves : Moves G slot_of member_in slot_of' member_in'
  pub clear : Clear G member_in'
  pub state : StateOf G slot_of' member_in' names done

pub going_on : (G : Setting) (slot_of member_in slot_of' member_in' : List ℕ) (names : List ℕ) (done : List Bool) (root : ℕ) (slot_of'' member_in'' names'' : List ℕ) (done'' : List Bool)
    → Going G slot_of member_in slot_of' member_in' names done → Advanced G slot_of' member_in' done root slot_of'' member_in'' names'' done'' → Going G slot_of member_in slot_of'' member_in'' names'' done''
going_on G slot_of member_in slot_of' member_in' names done root slot_of'' member_in'' names'' done'' g a = record {
  moves = more_moves G slot_of member_in slot_of' member_in' slot_of'' member_in'' g.moves a.moves;
  clear = clear_moves G slot_of' member_in' slot_of'' member_in'' g.moves.agrees g.clear a.moves;
  state = a.state;
}

-- each root is done once
pub fewer : (G : Setting) (slot_of member_in slot_of' member_in' names' : List ℕ) (done done' : List Bool) (root : ℕ) → length G.members ≤ length done → ChosenOf G slot_of done root → Advanced G slot_of member_in done root slot_of' member_in' names' done' → unmarked done' < unmarked done
fewer G slot_of member_in slot_of' member_in' names' done done' root len ch a =
    let within = mark_in G.members root ch.free in
    omega (arith, ap unmarked a.marked, unmarked_put done root (mark_pos G.members root ch.free) (omega arith) ch.new)

-- ---- how many were searched from
pub none_counted : (f : ℕ → Bool) (n : ℕ) → ((k : ℕ) → f k ≡ false) → count f n ≡ 0
none_counted f zero h = refl
none_counted f (suc n) h = omega (arith, none_counted f n h, none_if (f (suc n)) (h (suc n)))

-- one more is done, and so counted
pub one_counted : (done done' : List Bool) (root n : ℕ) → 0 < root → root ≤ n → root ≤ length done → at false done root ≡ false → done' ≡ put done root true → count (at false done') n ≡ count (at false done) n + 1
one_counted done done' root n r0 rn rl new e =
    let put_done = at false (put done root true) in
    let step = count-without put_done n root (within_from n root r0 rn) (at-put_same false done root true r0 rl) in
    let others = count_same (without put_done root) (at false done) n (λ k w. ⊎_elim
    (λ same. without_same put_done root k same ∙ sym (ap (at false done) same ∙ new))
    (λ other. without_other put_done root k other ∙ at-put_other false done root true k other)
    (cases_eq k root)) in
    omega (arith, ap (λ (d : List Bool). count (at false d) n) e)

pub root_counted : (G : Setting) (slot_of member_in slot_of' member_in' names' : List ℕ) (done done' : List Bool) (root n : ℕ) → length G.members ≤ length done → length G.members ≡ n → ChosenOf G slot_of done root → Advanced G slot_of member_in done root slot_of' member_in' names' done' → count (at false done') n ≡ count (at false done) n + 1
root_counted G slot_of member_in slot_of' member_in' names' done done' root n few len ch a =
    let within = mark_in G.members root ch.free in
    one_counted done done' root n (mark_pos G.members root ch.free) (omega arith) (omega arith) ch.new a.marked
