-- One root: a path that is applied, or names that are given.
use Rattle.std.proofs.Common.{◌≡◌, ℕ, ◌<◌, ◌≤◌, Bool, true, false, List, length, sym, subst, ⊎_elim, arith}
use Rattle.search.specs.declared.queue.Reached.{Reached}
use Rattle.refusal.specs.Limits.{side}
use Rattle.refusal.specs.Tables.{at, put}
use Rattle.search.specs.Scene.{scene, Agrees}
use Rattle.search.specs.Search.{Stuck, Path, Kept}
use Rattle.search.proofs.Agreement.{mark_pos, mark_in}
use Rattle.planner.specs.Pass.{Renamed}
use Rattle.planner.specs.Run.{Setting, stage_of, StateOf, ChosenOf, Clear, Advanced}
use Rattle.planner.proofs.Passing.{Ranked, cases_zero, unnamed, failed, flipped}
use Rattle.planner.proofs.Found.{pairs_of, dry_of, flip_of, moves_of, no_moves}
use Rattle.planner.proofs.Running.{done_put, ranked_of}
use Rattle.priority.specs.Order.{Ordered}
use Rattle.source.specs.Pairs.{Pairs}
use Rattle.plan.specs.declared.Plan.{Plan}
use Rattle.plan.specs.Held.{Held, held}
use Rattle.search.specs.Paths.{Dry}
use Rattle.search.specs.Outcomes.{side_fits, scene_of, Took}
use Rattle.search.proofs.Agreement.{plan_agrees}
use Rattle.search.proofs.Parts.{fit_parts}
use Rattle.planner.specs.Run.{setting_of}
use Rattle.planner.proofs.Plans.{plan_lengths}

module _ (G : Setting) (slot_of member_in names : List ℕ) (done : List Bool) (root : ℕ) (len : length G.members ≤ length done) (ag : Agrees slot_of member_in) (clear : Clear G member_in) (st : StateOf G slot_of member_in names done) (ch : ChosenOf G slot_of done root) where
  pub root_number : 0 < root
  root_number = mark_pos G.members root ch.free

  pub root_within : root ≤ length G.members
  root_within = mark_in G.members root ch.free

  pub root_unnamed : at 0 names root ≡ 0
  root_unnamed = ⊎_elim
      (λ h. absurd (unnamed (stage_of G) (at 0 slot_of) (at 0 member_in) (at 0 names) (at false done) (at false (put done root true)) root st ch (done_put done root root_number (omega (arith, root_within))) h))
      (λ z. z) (cases_zero (at 0 names root))

  pub advance_dry : (names' : List ℕ) (m : List Bool) (done' : List Bool) → Ranked (stage_of G) → done' ≡ put done root true → Stuck (scene G.allowed G.slots G.reaches member_in root names) m → Renamed (at 0 names) (at 0 names') root (at false m) → Advanced G slot_of member_in done root slot_of member_in names' done'
  advance_dry names' m done' ranked e stuck re = record {
    moves = no_moves G slot_of member_in ag;
    state = subst (λ (d : List Bool). StateOf G slot_of member_in names' d) (sym e)
        (failed (stage_of G) (at 0 slot_of) (at 0 member_in) (at 0 names) (at false done) (at false (put done root true)) root st ch (done_put done root root_number (omega (arith, root_within)))
        (at 0 names') (at false m) (dry_of G slot_of member_in names root ag clear ch.free ch.out m stuck) re ranked);
    marked = e;
  }

  pub advance_flip : (q : List Reached) (i t : ℕ) (slot_of' member_in' : List ℕ) (done' : List Bool) → Ranked (stage_of G) → done' ≡ put done root true → Path (scene G.allowed G.slots G.reaches member_in root names) q i t → Kept slot_of member_in q i t slot_of' member_in' → Advanced G slot_of member_in done root slot_of' member_in' names done'
  advance_flip q i t slot_of' member_in' done' ranked e path a = record {
    moves = moves_of G slot_of member_in names root ag clear ch.free ch.out q i t path slot_of' member_in' root_unnamed a ranked;
    state = subst (λ (d : List Bool). StateOf G slot_of' member_in' names d) (sym e)
        (flipped (stage_of G) (at 0 slot_of) (at 0 member_in) (at 0 names) (at false done) (at false (put done root true)) root st ch (done_put done root root_number (omega (arith, root_within)))
        (at 0 slot_of') (at 0 member_in') (pairs_of slot_of member_in ag) (flip_of G slot_of member_in names root ag clear ch.free ch.out q i t path slot_of' member_in' root_unnamed a) ranked);
    marked = e;
  }

-- a root of a plan, whose parts fit together
module _ {P : Type 0} {reaches : P → P → Bool} (laws : Ordered reaches) (pairs : Pairs) (ranking : List P) (plan : Plan) (names : List ℕ) (done : List Bool) (root : ℕ)
    (fits : side_fits pairs ranking (held plan) ≡ true) (room : length done ≡ side)
    (clear : Clear (setting_of reaches pairs ranking (held plan).attendance) (held plan).programme_in)
    (st : StateOf (setting_of reaches pairs ranking (held plan).attendance) (held plan).slot_of (held plan).programme_in names done)
    (ch : ChosenOf (setting_of reaches pairs ranking (held plan).attendance) (held plan).slot_of done root) where
  abbrev G : Setting
  G = setting_of reaches pairs ranking (held plan).attendance

  members_len : length G.members ≡ length ranking
  members_len = omega (arith, (plan_lengths plan).programmes, (fit_parts pairs ranking (held plan) fits).1)

  members_few : length G.members ≤ length done
  members_few = omega (arith, (plan_lengths plan).programmes, (plan_lengths plan).few)

  ranked : Ranked (stage_of G)
  ranked = ranked_of laws ranking G.allowed G.members G.slots members_len

  pub root_known : (0 < root) × (root ≤ length ranking)
  root_known =
      let a = root_number G (held plan).slot_of (held plan).programme_in names done root members_few (plan_agrees plan) clear st ch in
      let b = root_within G (held plan).slot_of (held plan).programme_in names done root members_few (plan_agrees plan) clear st ch in
      (a, omega (arith, members_len))

  pub reached_few : (m : List Bool) → Dry (scene_of reaches pairs ranking (held plan) names root) m → (k : ℕ) → at false m k ≡ true → k ≤ length ranking
  reached_few m dry k h =
      let f = (dry_of G (held plan).slot_of (held plan).programme_in names root (plan_agrees plan) clear ch.free ch.out m dry.stuck).free k h in
      let b = mark_in G.members k f in
      omega (arith, members_len)

  pub advance_stuck : (plan' : Held) (names' : List ℕ) (m done' : List Bool) → done' ≡ put done root true → Dry (scene_of reaches pairs ranking (held plan) names root) m → Renamed (at 0 names) (at 0 names') root (at false m) → plan' ≡ held plan
      → Advanced G (held plan).slot_of (held plan).programme_in done root plan'.slot_of plan'.programme_in names' done'
  advance_stuck plan' names' m done' e dry re same =
      subst (λ (h : Held). Advanced G (held plan).slot_of (held plan).programme_in done root h.slot_of h.programme_in names' done') (sym same)
      (advance_dry G (held plan).slot_of (held plan).programme_in names done root members_few (plan_agrees plan) clear st ch names' m done' ranked e dry.stuck re)

  pub advance_placed : (plan' : Held) (done' : List Bool) (count : ℕ) → done' ≡ put done root true → Took (scene_of reaches pairs ranking (held plan) names root) (held plan).slot_of plan'.slot_of plan'.programme_in count
      → Advanced G (held plan).slot_of (held plan).programme_in done root plan'.slot_of plan'.programme_in names done'
  advance_placed plan' done' count e took =
      advance_flip G (held plan).slot_of (held plan).programme_in names done root members_few (plan_agrees plan) clear st ch took.queue took.from took.slot plan'.slot_of plan'.programme_in done' ranked e took.found.path took.applied.kept
