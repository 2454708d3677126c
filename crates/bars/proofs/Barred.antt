-- Lemmas on barring one pair, and lifting it.
use Rattle.std.proofs.Common.{◌≡◌, ℕ, Bool, true, false, cond, not, ◌&&◌, eqb, IfOk, None, Ok, Err, Result, sym, refl, ap, ◌∙◌, ⊎_elim, arith}
use mathlib.Core.Path.{fun_ext}
use Rattle.std.proofs.lemmas.Bool.{and_from, and_parts, cases_Bool, eqb-true}
use Rattle.refusal.specs.declared.Refusal.{Refusal}
use Rattle.refusal.specs.Limits.{side}
use Rattle.refusal.specs.Refusals.{refusal_of}
use Rattle.refusal.proofs.Counts.{within_from}
use Rattle.source.specs.Pairs.{Pairs, inside, holds, cut, changed, layered, empty_pairs}
use Rattle.source.proofs.Questions.{inside_programme, inside_slot}

-- a call that refuses nothing has done its work
pub accepted : (r : Result (Unit {0}) Refusal) (Done : Type 0) → refusal_of r ≡ None → IfOk r (λ x. Done) → Done
accepted (Ok x) Done e done = done
accepted (Err y) Done e done = let z : ◌≡◌ {A = ℕ} 0 1 = cc in absurd (omega arith)

-- a table of all pairs within the cut has a place for each
pub has_place : (p b : Pairs) (i s : ℕ) → b.programmes ≡ side → b.slots ≡ side → inside (cut p) i s ≡ true → inside b i s ≡ true
has_place p b i s x y h =
    let (a, c) = inside_programme (cut p) i s h in
    let (d, e) = inside_slot (cut p) i s h in
    and_from _ _ (within_from b.programmes i a (omega arith)) (within_from b.slots s d (omega arith))

barred_here : (allowed within x : Bool) → allowed ≡ true → within ≡ true → (allowed && not (within && x)) ≡ not x
barred_here allowed within x a w = simp (a, w)

-- barring the pair, or lifting it, changes the layer at that pair alone
pub barring : (p b : Pairs) (i s : ℕ) (x : Bool) → p.allowed i s ≡ true → inside b i s ≡ true → layered p (holds (changed b i s x)) ≡ changed (layered p (holds b)) i s (not x)
barring p b i s x a w =
    ap {B = Pairs} (λ f. record { programmes = (cut p).programmes; slots = (cut p).slots; allowed = f })
    (fun_ext (λ j. fun_ext (λ t.
    ⊎_elim
    (λ (e : (eqb i j && eqb s t) ≡ true).
    let q = and_parts (eqb i j) (eqb s t) e in
    let u : i ≡ j = eqb-true i j q.0 in
    let v : s ≡ t = eqb-true s t q.1 in
    let a' : p.allowed j t ≡ true = cc in
    let w' : inside b j t ≡ true = ap (λ n. inside b n t) (sym u) ∙ ap (λ n. inside b i n) (sym v) ∙ w in
    ap (λ c. p.allowed j t && not (inside b j t && cond c x (b.allowed j t))) e ∙ barred_here (p.allowed j t) (inside b j t) x a' w' ∙ sym (ap (λ c. cond c (not x) ((layered p (holds b)).allowed j t)) e))
    (λ (e : (eqb i j && eqb s t) ≡ false).
    ap (λ c. p.allowed j t && not (inside b j t && cond c x (b.allowed j t))) e ∙ sym (ap (λ c. cond c (not x) ((layered p (holds b)).allowed j t)) e))
    (cases_Bool (eqb i j && eqb s t)))))

-- where no pair is barred the layer is the source below, cut
nothing_barred : (allowed within : Bool) → (allowed && not (within && false)) ≡ allowed
nothing_barred true true = refl
nothing_barred true false = refl
nothing_barred false within = refl

pub none_barred : (p b : Pairs) (m n : ℕ) → b ≡ empty_pairs m n → layered p (holds b) ≡ cut p
none_barred p b m n e =
    ap (λ q. layered p (holds q)) e ∙ ap {B = Pairs} (λ f. record { programmes = (cut p).programmes; slots = (cut p).slots; allowed = f })
    (fun_ext (λ i. fun_ext (λ s. nothing_barred (p.allowed i s) (inside (empty_pairs m n) i s))))
