-- The tests of `Check` say what `Lawful`, `Rules` and `Passes` say.
use Rattle.std.proofs.Common.{◌≡◌, ℕ, Bool, true, false, not, ◌&&◌, eqb, ◌≢◌, Decides, refl}
use Rattle.std.proofs.lemmas.Bool.{and_parts, not-true, not_from_false, false≢true}
use Rattle.std.proofs.lemmas.Bool.Decides.{Decides-eqb, Decides-not, Decides-and, Decides-like}
use Rattle.refusal.specs.Counting.{all, within, ◌implies◌}
use Rattle.refusal.proofs.Counts.{all_at, all_from}
use Rattle.priority.specs.Order.{Ordered}
use Rattle.matching.specs.Board.{Board, Plan, size, attends, turn, turned, free, slot_free, may_run, Lawful, placed}
use Rattle.matching.specs.Certificate.{Certificate, Naming, Rules, Passes, at_least}
use Rattle.matching.specs.Check.{pair_lawful, lawful, unplaced_names_itself, slot_blocked, naming_right, rules, passes, Within, TestIsExact, TestedIsBest}
use Rattle.matching.proofs.Soundness.{passing_is_best}

decides_self : (b : Bool) → Decides b (b ≡ true)
decides_self b = (λ e. e, λ e. e)

decides_fails : (b : Bool) → Decides (not b) (b ≡ false)
decides_fails b = (not-true b, not_from_false b)

decides_all : (f : ℕ → Bool) (Q : ℕ → Type 0) (n : ℕ) → ((k : ℕ) → Decides (f k) (Q k)) → Decides (all f n) ((k : ℕ) → within n k ≡ true → Q k)
decides_all f Q n each = (λ a k w. (each k).0 (all_at f n k a w), λ h. all_from f n (λ k w. (each k).1 (h k w)))

decides_implies : {A B : Type 0} (a b : Bool) → Decides a A → Decides b B → Decides (a implies b) (A → B)
decides_implies true b f g = (λ e x. g.0 e, λ h. g.1 (h (f.0 refl)))
decides_implies false b f g = (λ e x. absurd (false≢true (f.1 x)), λ h. refl)

module _ {P : Type 0} {reaches : P → P → Bool} (board : Board reaches) where
  free_within : (i : ℕ) → free board i ≡ true → within (size board.programmes) i ≡ true
  free_within i h = (and_parts (within (size board.programmes) i) (board.programmes.present i) (and_parts (attends board.programmes i) _ h).0).0

module _ {P : Type 0} {reaches : P → P → Bool} (board : Board reaches) (plan : Plan) (names : ℕ → ℕ) where
  decides_naming : (i : ℕ) → Decides (naming_right board plan names i) (names i ≢ 0 → Naming board plan names i)
  decides_naming i =
      decides_implies (not (eqb (names i) 0)) _ (Decides-not (eqb (names i) 0) (Decides-eqb (names i) 0))
      (Decides-like _ (λ h. record { namer_free = h.0; named_free = h.1.0; named_unplaced = h.1.1.0; namer_as_high = h.1.1.1.0; blocked = λ s f a. h.1.1.1.1 s (free_within (turn board) s f) (f, a) })
      (λ h. (h.namer_free, (h.named_free, (h.named_unplaced, (h.namer_as_high, λ s w q. h.blocked s q.0 q.1)))))
      (Decides-and (free board i) _ (decides_self _)
      (Decides-and (free board (names i)) _ (decides_self _)
      (Decides-and (not (placed board plan (names i))) _ (decides_fails _)
      (Decides-and (at_least board i (names i)) _ (decides_self _)
      (decides_all (slot_blocked board plan names i) _ (size board.slots) (λ s. decides_implies (slot_free board s && board.allowed i s) _ (Decides-and (slot_free board s) (board.allowed i s) (decides_self _) (decides_self _)) (decides_self _))))))))

  pub decides_rules : Decides (rules board plan names) (Rules board plan names)
  decides_rules =
      Decides-like _
      (λ h. record { unplaced = λ i f u. (h i (free_within board i f)).0 (f, u); naming = λ i w. (h i w).1 })
      (λ h i w. (λ q. h.unplaced i q.0 q.1, h.naming i w))
      (decides_all (λ i. unplaced_names_itself board plan names i && naming_right board plan names i) _ (size board.programmes)
      (λ i. Decides-and (unplaced_names_itself board plan names i) _
      (decides_implies (free board i && not (placed board plan i)) _ (Decides-and (free board i) _ (decides_self _) (decides_fails _)) (Decides-eqb (names i) i))
      (decides_naming i)))

module _ {P : Type 0} {reaches : P → P → Bool} (board : Board reaches) (plan : Plan) (plan-within : Within board plan) (locked-within : Within board board.locked) where
  row : (i s : ℕ) → plan i s ≡ true → within (size board.programmes) i ≡ true
  row i s e = (and_parts (within (size board.programmes) i) _ (plan-within i s e)).0

  column : (i s : ℕ) → plan i s ≡ true → within (size board.slots) s ≡ true
  column i s e = (and_parts (within (size board.programmes) i) _ (plan-within i s e)).1

  pub decides_lawful : Decides (lawful board plan) (Lawful board plan)
  decides_lawful =
      Decides-like _
      (λ h. record {
        fits = λ i s e. (h i (row i s e) s (column i s e)).0 e;
        one_slot = λ i s t e f. (h i (row i s e) s (column i s e)).1.1.0 t (column i t f) (e, f);
        one_programme = λ i j s e f. (h i (row i s e) s (column i s e)).1.1.1 j (row j s f) (e, f);
        keeps = λ i s e. let (r, c) = and_parts (within (size board.programmes) i) _ (locked-within i s e) in (h i r s c).1.0 e;
      })
      (λ h i w s v. (h.fits i s, (h.keeps i s, (λ t _ q. h.one_slot i s t q.0 q.1, λ j _ q. h.one_programme i j s q.0 q.1))))
      (decides_all (λ i. all (pair_lawful board plan i) (size board.slots)) _ (size board.programmes)
      (λ i. decides_all (pair_lawful board plan i) _ (size board.slots)
      (λ s. Decides-and (plan i s implies may_run board i s) _ (decides_implies (plan i s) _ (decides_self _) (decides_self _))
      (Decides-and (board.locked i s implies plan i s) _ (decides_implies (board.locked i s) _ (decides_self _) (decides_self _))
      (Decides-and (all (λ t. (plan i s && plan i t) implies eqb s t) (size board.slots)) _
      (decides_all (λ t. (plan i s && plan i t) implies eqb s t) _ (size board.slots) (λ t. decides_implies (plan i s && plan i t) _ (Decides-and (plan i s) _ (decides_self _) (decides_self _)) (Decides-eqb s t)))
      (decides_all (λ j. (plan i s && plan j s) implies eqb i j) _ (size board.programmes) (λ j. decides_implies (plan i s && plan j s) _ (Decides-and (plan i s) _ (decides_self _) (decides_self _)) (Decides-eqb i j))))))))

  pub decides_passes : (certificate : Certificate) → Decides (passes board plan certificate) (Passes board plan certificate)
  decides_passes certificate =
      Decides-like _
      (λ h. record { lawful = h.0; programmes = h.1.0; slots = h.1.1 })
      (λ h. (h.lawful, (h.programmes, h.slots)))
      (Decides-and (lawful board plan) _ decides_lawful
      (Decides-and (rules board plan certificate.programmes) _ (decides_rules board plan certificate.programmes) (decides_rules (turn board) (turned plan) certificate.slots)))

pub test_is_exact : {P : Type 0} {reaches : P → P → Bool} → TestIsExact reaches
test_is_exact board plan certificate plan-within locked-within = decides_passes board plan plan-within locked-within certificate

pub tested_is_best : {P : Type 0} {reaches : P → P → Bool} → Ordered reaches → TestedIsBest reaches
tested_is_best ordered board plan certificate plan-within locked-within e = passing_is_best ordered board plan certificate ((decides_passes board plan plan-within locked-within certificate).0 e)
