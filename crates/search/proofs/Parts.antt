-- What `improve` needs of its parts.
use Rattle.std.proofs.Common.{◌≡◌, ℕ, ◌<◌, ◌≤◌, Bool, true, eqb, List, length, sym, refl, ap, ◌∙◌, ⊎_elim, arith}
use Rattle.std.proofs.lemmas.Bool.{cases_lt, both_ways, and_parts, eqb-true}
use Rattle.source.specs.Pairs.{Pairs}
use Rattle.refusal.specs.Tables.{at}
use Rattle.plan.specs.declared.Plan.{Plan}
use Rattle.plan.specs.Held.{Held, held}
use Rattle.search.specs.Scene.{Scene, scene, Agrees}
use Rattle.search.specs.declared.queue.Reached.{Reached}
use Rattle.search.specs.Search.{who, Path, Shape}
use Rattle.search.specs.Outcomes.{side_fits, scene_of}
use Rattle.search.proofs.Asking.{holds_within}
use Rattle.search.proofs.Agreement.{plan_agrees, at_in, at_pos}

-- the entries of a table of slots are numbers of members
pub entries_in : (slot_of member_in : List ℕ) → Agrees slot_of member_in → (t : ℕ) → at 0 member_in t ≤ length slot_of
entries_in slot_of member_in ag t = ⊎_elim
    (λ h. at_in slot_of (at 0 member_in t) (omega (arith, ag.back (at 0 member_in t) t h (at_pos member_in t h) refl, at_pos member_in t h)))
    (λ h. omega arith) (cases_lt 0 (at 0 member_in t))

pub path_shape : (S : Scene) (slot_of : List ℕ) (q : List Reached) (i t : ℕ) → S.root ≤ length slot_of → at 0 slot_of S.root ≡ 0
    → 0 < t → t ≤ length S.member_in → Path S q i t → Shape slot_of S.member_in q i t
path_shape S slot_of q i t rl r0 t0 tl p = record {
  within = p.within;
  slot = (t0, tl);
  root = omega (arith, p.chain.first);
  unplaced = ap (at 0 slot_of) p.chain.first ∙ r0;
  number = λ k h. p.chain.number k (omega (arith, p.within));
  earlier = λ k k0 h. p.chain.earlier k k0 (omega (arith, p.within));
  sits = λ k k0 h. p.chain.sits k k0 (omega (arith, p.within));
  apart = λ j k jk h. p.chain.apart j k jk (omega (arith, p.within));
  loser = λ k h e.
      let n = p.chain.number k (omega (arith, p.within)) in
      both_ways (S.reaches (at 0 S.member_in t) S.root) (p.exit.lower (omega arith))
      (ap (λ z. S.reaches z S.root) (sym e) ∙ p.chain.high k (omega (arith, p.within)));
}

pub fit_parts : {P : Type 0} (pairs : Pairs) (ranking : List P) (plan : Held) → side_fits pairs ranking plan ≡ true → (pairs.programmes ≡ length ranking) × (length plan.slot_of ≡ length ranking) × (pairs.slots ≡ length plan.programme_in)
fit_parts pairs ranking plan h =
    let (a, rest) = and_parts (eqb pairs.programmes (length ranking)) _ h in
    let (b, d) = and_parts (eqb (length plan.slot_of) (length ranking)) _ rest in
    (eqb-true _ _ a, eqb-true _ _ b, eqb-true _ _ d)

-- whoever is in the plan has a mark
pub entries_fit : (plan : Plan) (member_in : List ℕ) (count : ℕ) → member_in ≡ (held plan).programme_in → length (held plan).slot_of ≤ count → (t : ℕ) → at 0 member_in t ≤ count
entries_fit plan member_in count e f t = let b = entries_in (held plan).slot_of (held plan).programme_in (plan_agrees plan) t in let a = ap (λ (l : List ℕ). at 0 l t) e in omega arith

-- the scene as the search was handed it
pub scene_is : (S : Scene) (slots : List Bool) (member_in : List ℕ) → slots ≡ S.slots → member_in ≡ S.member_in → scene S.allowed slots S.reaches member_in S.root S.names ≡ S
scene_is S slots member_in e f = ap (λ (l : List Bool). scene S.allowed l S.reaches member_in S.root S.names) e ∙ ap (λ (l : List ℕ). scene S.allowed S.slots S.reaches l S.root S.names) f

-- the path that was found can be flipped
pub end_shape : {P : Type 0} (reaches : P → P → Bool) (pairs : Pairs) (ranking : List P) (plan : Held) (names : List ℕ) (root : ℕ) (q : List Reached) (i t : ℕ)
    → side_fits pairs ranking plan ≡ true → root ≤ length ranking → at 0 plan.slot_of root ≡ 0 → Path (scene_of reaches pairs ranking plan names root) q i t → Shape plan.slot_of plan.programme_in q i t
end_shape reaches pairs ranking plan names root q i t fits rl r0 p =
    let fit = fit_parts pairs ranking plan fits in
    let w = holds_within pairs (who q i) t p.last in
    path_shape (scene_of reaches pairs ranking plan names root) plan.slot_of q i t (omega (arith, fit.1)) r0 w.2 (omega (arith, fit.2, w.3)) p
