-- The turns of the judge's loop over the rules, and how it ends.
use Rattle.std.proofs.Common.{◌≡◌, ℕ, ◌+◌, ◌<◌, ◌≤◌, Bool, true, false, List, length, Some, None, sym, refl, ◌∙◌, subst, ⊎_elim, arith}
use Rattle.std.proofs.lemmas.Bool.{and_from, and_left, and_right, or_left, or_right, or_from, not_from_false, not_from_true, eq-eqb, ne_eqb, cases_lt}
use Rattle.refusal.specs.Tables.{at}
use Rattle.refusal.proofs.Counts.{all_from, all_fails, within_bounds, Passed, passed_none, passed_next, passed_more, passed_all}
use Rattle.refusal.proofs.First.{first_some, first_none}
use Rattle.source.specs.Pairs.{holds, first_slot}
use Rattle.matching.specs.Check.{rules}
use Rattle.matching.specs.Lists.{plan_of}
use Rattle.judge.specs.Handed.{Handed, Fit, board_in}
use Rattle.judge.specs.Tests.{well_named, blocked, slot_kept, keeps}
use Rattle.judge.proofs.Boards.{rules_is}

module _ {P : Type 0} (f : P → P → Bool) (t : Handed P) (names : List ℕ) (x : ℕ) where
  abbrev pub Well : Bool → Type 0
  Well b = b ≡ well_named f t.programmes t.plan.attendance.programmes t.plan.slot_of names x

  abbrev pub Blocked : Bool → ℕ → ℕ → Type 0
  Blocked b name s = b ≡ blocked f t.programmes t.plan.attendance.slots t.plan.programme_in names name s

  -- the programmes before x keep the rules
  pub record Tried (kept : Bool) : Type 0 where
    pub kept_so_far : kept ≡ true
    pub low : 1 ≤ x
    pub before : Passed (keeps f t names) x

  -- and x does, as far as its slots before `from` go
  pub record Asked (name from : ℕ) (kept : Bool) : Type 0 where
    pub tried : Tried kept
    pub well : Well true
    pub name_is : name ≡ at 0 names x
    pub named : name ≡ 0 → ⊥
    pub low : 1 ≤ from
    pub blocked : Passed (slot_kept f t names x) from

  not_allowed : (s : ℕ) → holds t.pairs x s ≡ false → slot_kept f t names x s ≡ true
  not_allowed s e = or_left _ _ (not_from_false _ e)

pub start : {P : Type 0} (f : P → P → Bool) (t : Handed P) (names : List ℕ) → Tried f t names 1 true
start f t names = record { kept_so_far = refl; low = omega arith; before = passed_none _ }

module _ {P : Type 0} {f : P → P → Bool} {t : Handed P} {names : List ℕ} {x : ℕ} where
  next : {kept : Bool} → Tried f t names x kept → keeps f t names x ≡ true → Tried f t names (x + 1) kept
  next i here = record { kept_so_far = i.kept_so_far; low = omega arith; before = passed_more _ x i.before here }

  pub ask : {kept : Bool} {name : ℕ} → Tried f t names x kept → Well f t names x true → name ≡ at 0 names x → (name ≡ 0 → ⊥) → Asked f t names x name 1 kept
  ask i w e ne = record { tried = i; well = w; name_is = e; named = ne; low = omega arith; blocked = passed_none _ }

  pub unnamed : {kept : Bool} {name : ℕ} → Tried f t names x kept → Well f t names x true → name ≡ at 0 names x → name ≡ 0 → Tried f t names (x + 1) kept
  unnamed i w e z = next i (and_from _ _ (sym w) (or_left _ _ (eq-eqb _ 0 (sym e ∙ z))))

  pub ask_next : {kept : Bool} {name from s : ℕ} → Asked f t names x name from kept → Some s ≡ first_slot t.pairs x from → Blocked f t names x true name s → Asked f t names x name (s + 1) kept
  ask_next {name} {from} {s} i first h =
      let (le, last, here, before) = first_some (λ s. holds t.pairs x s) t.pairs.slots from s (sym first) in
      record {
        tried = i.tried;
        well = i.well;
        name_is = i.name_is;
        named = i.named;
        low = omega arith;
        blocked = passed_next _ from s i.blocked le (λ j a b. not_allowed f t names x j (before j a b)) (or_right _ _ (subst (λ (w : ℕ). blocked f t.programmes t.plan.attendance.slots t.plan.programme_in names w s ≡ true) i.name_is (sym h)));
      }

  pub asked_all : {kept : Bool} {name from : ℕ} → Fit t → Asked f t names x name from kept → None ≡ first_slot t.pairs x from → Tried f t names (x + 1) kept
  asked_all {from} ok i first =
      next i.tried (and_from _ _ (sym i.well) (or_right _ _ (all_from (slot_kept f t names x) (length t.slots) (λ s v.
      let b = within_bounds _ s v in
      ⊎_elim (λ (l : s < from). i.blocked s b.0 l) (λ (l : from ≤ s). not_allowed f t names x s (first_none (λ s. holds t.pairs x s) t.pairs.slots from (sym first) s l (omega (arith, ok.slots)))) (cases_lt s from)))))

  -- every programme was tried
  pub all_kept : {kept : Bool} → Fit t → Tried f t names x kept → length t.programmes < x → kept ≡ rules (board_in f t) (plan_of t.plan.slot_of) (at 0 names)
  all_kept ok i l = i.kept_so_far ∙ sym (rules_is f t ok names ∙ passed_all _ _ x l i.before)

  broken : {kept : Bool} → Fit t → Tried f t names x kept → x ≤ length t.programmes → keeps f t names x ≡ false → false ≡ rules (board_in f t) (plan_of t.plan.slot_of) (at 0 names)
  broken ok i l e = sym (rules_is f t ok names ∙ all_fails (keeps f t names) _ x i.low l e)

  pub ill_named : {kept : Bool} → Fit t → Tried f t names x kept → x ≤ length t.programmes → Well f t names x false → false ≡ rules (board_in f t) (plan_of t.plan.slot_of) (at 0 names)
  ill_named ok i l w = broken ok i l (and_left _ _ (sym w))

  pub not_blocked : {kept : Bool} {name from s : ℕ} → Fit t → Asked f t names x name from kept → x ≤ length t.programmes → Some s ≡ first_slot t.pairs x from → Blocked f t names x false name s → false ≡ rules (board_in f t) (plan_of t.plan.slot_of) (at 0 names)
  not_blocked {name} {from} {s} ok i l first h =
      let (le, last, here, before) = first_some (λ s. holds t.pairs x s) t.pairs.slots from s (sym first) in
      let fails : slot_kept f t names x s ≡ false = or_from _ _ (not_from_true _ here) (subst (λ (w : ℕ). blocked f t.programmes t.plan.attendance.slots t.plan.programme_in names w s ≡ false) i.name_is (sym h)) in
      broken ok i.tried l (and_right _ _ (or_from _ _ (ne_eqb _ 0 (λ z. i.named (i.name_is ∙ z))) (all_fails (slot_kept f t names x) (length t.slots) s (omega arith) (omega (arith, ok.slots)) fails)))
