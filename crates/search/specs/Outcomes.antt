-- What one search from a root does to a plan.
use Rattle.std.specs.Prelude.{◌≡◌, ℕ, Bool, false, not, ◌&&◌, List, [], ◌∷◌, length, ◌==◌}
use Rattle.refusal.specs.Tables.{at, holds_at}
use Rattle.source.specs.Pairs.{Pairs, holds}
use Rattle.plan.specs.Held.{Held}
use Rattle.search.specs.declared.queue.Reached.{Reached}
use Rattle.search.specs.declared.improve.Outcome.{Outcome}
use Rattle.search.specs.declared.improve.Outcome.TheVariants.{Placed, Stuck, Idle}
use Rattle.search.specs.Scene.{Scene, scene}
use Rattle.search.specs.Paths.{Found, Dry}
use Rattle.search.specs.Changes.{Applied}

-- The source has the plan's counts, and the ranking a priority for each programme.
abbrev pub side_fits : {P : Type 0} → Pairs → List P → Held → Bool
side_fits pairs ranking plan =
    (pairs.programmes == length ranking)
    && (length plan.slot_of == length ranking
    && pairs.slots == length plan.programme_in)

-- Improve: 12 when the parts do not fit together, then 10 when there is no such root.
abbrev pub improve_refusals : Bool → Bool → List (Bool × ℕ)
improve_refusals fit known = (not fit, 12) ∷ (not known, 10) ∷ []

-- What the search reads: the source's pairs, the slots that are present, the ranking, the plan, and the names.
abbrev pub scene_of : {P : Type 0} → (P → P → Bool) → Pairs → List P → Held → List ℕ → ℕ → Scene
scene_of reaches pairs ranking plan names root = scene (holds pairs) plan.attendance.slots (holds_at reaches ranking) plan.programme_in root names

-- The root has no slot and no name.
abbrev pub waits : Held → List ℕ → ℕ → Bool
waits plan names root = at 0 plan.slot_of root == 0 && at 0 names root == 0

-- A path of that many pairs was found, and flipped.
pub record Took (S : Scene) (slot_of slot_of' member_in' : List ℕ) (count : ℕ) : Type 0 where
  -- the path leads over places of a queue from the root to its last slot
  pub queue : List Reached
  pub from : ℕ
  pub slot : ℕ
  pub found : Found S queue from slot count
  -- just the path's pairs changed
  pub applied : Applied slot_of S.member_in queue from slot slot_of' member_in'

-- What each outcome says of the plan before and after, and of the marks.
abbrev pub Told : Scene → Held → List ℕ → Held → List Bool → Outcome → Type 0
Told S plan names plan' marks (Placed count) = Took S plan.slot_of plan'.slot_of plan'.programme_in count
Told S plan names plan' marks Stuck = Dry S marks × (plan' ≡ plan)
Told S plan names plan' marks Idle = (waits plan names S.root ≡ false) × (plan' ≡ plan)
