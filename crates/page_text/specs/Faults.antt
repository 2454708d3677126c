-- What a page is called, and how a refusal is told with its page and line.
use Rattle.std.specs.Prelude.{ℕ, List, Ok, Err, codes, Result}
use Rattle.refusal.specs.declared.Refusal.{Refusal}
use Rattle.page_text.specs.declared.fault.Fault.{Fault}
use Rattle.page_text.specs.declared.fault.Page.{Page}
use Rattle.page_text.specs.declared.fault.Place.{Place}
use Rattle.page_text.specs.declared.fault.Page.TheVariants.{Pairs, Programmes, Slots, Plan, Proof}

-- The name of a page's file.
abbrev pub file_name : Page → List ℕ
file_name Pairs = codes "pairs.mtx"
file_name Programmes = codes "programmes.mtx"
file_name Slots = codes "slots.mtx"
file_name Plan = codes "plan.mtx"
file_name Proof = codes "proof.mtx"

-- The fault of a refusal at a place.
abbrev pub fault_at : Place → Refusal → Fault
fault_at place w = record { refusal = w; line = place.line; page = place.page }

-- A refusal is told with its place; an answer stays as it is.
abbrev pub told : {X : Type 0} → Place → Result X Refusal → Result X Fault
told place (Ok x) = Ok x
told place (Err w) = Err (fault_at place w)
