-- What a pair of the fit source reads from its two lists.
use Rattle.std.proofs.Common.{◌≡◌, ℕ, ◌+◌, ◌-◌, ◌<◌, ◌≤◌, true, ◌&&◌, List, length, drop, get_or, Some, sym, ap, ◌∙◌, arith}
use Rattle.std.specs.List.{slice_range}
use Rattle.std.proofs.lemmas.Bool.{and_from}
use Rattle.std.proofs.lemmas.List.{get_or-drop, get_or-take, get_or_default}
use Rattle.refusal.specs.Tables.{item}
use Rattle.refusal.proofs.Counts.{within_from}
use Rattle.refusal.proofs.Entries.{item_read}
use Rattle.source.specs.Pairs.{inside, holds}
use Rattle.fit.specs.declared.programmes.Programme.{Programme}
use Rattle.fit.specs.declared.slots.Slot.{Slot}
use Rattle.fit.specs.Fitting.{fits, both_fit, fitting}

pub fits_read : (programmes : List Programme) (slots : List Slot) (i s : ℕ) (programme : Programme) (slot : Slot) → 1 ≤ i → i ≤ length programmes → 1 ≤ s → s ≤ length slots → programme ≡ get_or programmes (i - 1) programme → slot ≡ get_or slots (s - 1) slot → fits programme slot ≡ holds (fitting programmes slots) i s
fits_read programmes slots i s programme slot a b c d e f =
    let within : inside (fitting programmes slots) i s ≡ true = and_from _ _ (within_from (length programmes) i a b) (within_from (length slots) s c d) in
    sym (ap (λ x. x && both_fit (item programmes i) (item slots s)) within ∙ ap (λ o. both_fit o (item slots s)) (item_read programmes i programme a b e) ∙ ap (both_fit (Some programme)) (item_read slots s slot c d f))

-- ---- the rest of a list, from its number k on
rest_read : {X : Type 0} (all xs : List X) (k : ℕ) → 0 < k → xs ≡ slice_range all (k - 1) (length all) → length xs + (k - 1) ≡ length all → (j : ℕ) (d : X) → j < length xs → get_or xs j d ≡ get_or all (k + j - 1) (get_or xs j d)
rest_read all xs k low part size j d h =
    let at : k - 1 + j ≡ k + j - 1 = omega arith in
    ap (λ ys. get_or ys j d) part
    ∙ get_or-take (length all - (k - 1)) (drop (k - 1) all) j d (omega arith)
    ∙ get_or-drop (k - 1) all j d
    ∙ ap (λ n. get_or all n d) at
    ∙ get_or_default all (k + j - 1) d (get_or xs j d) (omega arith)

module _ (programmes : List Programme) (slots : List Slot) (k : ℕ) (low : 0 < k) where
  pub slots_stand : (i : ℕ) (programme : Programme) → 1 ≤ i → i ≤ length programmes → programme ≡ get_or programmes (i - 1) programme → (xs : List Slot) → xs ≡ slice_range slots (k - 1) (length slots) → length xs + (k - 1) ≡ length slots → (j : ℕ) (d : Slot) → j < length xs → fits programme (get_or xs j d) ≡ holds (fitting programmes slots) i (k + j)
  slots_stand i programme a b e xs part size j d h =
      fits_read programmes slots i (k + j) programme (get_or xs j d) a b (omega arith) (omega arith) e (rest_read slots xs k low part size j d h)

  pub programmes_stand : (s : ℕ) (slot : Slot) → 1 ≤ s → s ≤ length slots → slot ≡ get_or slots (s - 1) slot → (xs : List Programme) → xs ≡ slice_range programmes (k - 1) (length programmes) → length xs + (k - 1) ≡ length programmes → (j : ℕ) (d : Programme) → j < length xs → fits (get_or xs j d) slot ≡ holds (fitting programmes slots) (k + j) s
  programmes_stand s slot a b e xs part size j d h =
      fits_read programmes slots (k + j) s (get_or xs j d) slot (omega arith) (omega arith) a b (rest_read programmes xs k low part size j d h) e
