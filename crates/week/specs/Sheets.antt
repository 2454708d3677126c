-- What a week holds: its plan with its attendance, and its certificate.
use Rattle.std.specs.Prelude.{ℕ, ◌+◌, List, ◌++◌, length, drop, vec_items}
use Rattle.plan.specs.Held.{Held, held}
use Rattle.planner.specs.Settling.{entries}
use Rattle.refusal.specs.Tables.{put}
use Rattle.plan.specs.declared.Member.{Member}
use Rattle.plan.specs.declared.Member.TheVariants.{Programme, Slot}
use Rattle.week.specs.declared.Sheet.{Sheet}

-- The plan with its attendance.
abbrev pub plan_in : Sheet → Held
plan_in sheet = held sheet.plan

-- The certificate as it is told: one entry for each programme, then one for each slot.
abbrev pub certificate_in : Sheet → List ℕ
certificate_in sheet = entries sheet.certificate

-- How many entries it has.
abbrev pub entry_count : Sheet → ℕ
entry_count sheet = length (vec_items sheet.certificate.programmes) + length (vec_items sheet.certificate.slots)

-- A table with the entries written over its start; further places are kept.
abbrev pub over : List ℕ → List ℕ → List ℕ
over entries table = entries ++ drop (length entries) table

-- The priorities of the programmes, and of the slots, with one of them set: a rank of the other side leaves them.
abbrev pub programmes_with : {P : Type 0} → List P → Member → P → List P
programmes_with priorities (Programme i) p = put priorities i p
programmes_with priorities (Slot s) p = priorities

abbrev pub slots_with : {P : Type 0} → List P → Member → P → List P
slots_with priorities (Programme i) p = priorities
slots_with priorities (Slot s) p = put priorities s p
