-- How a certificate that the planner leaves is read.
use Rattle.std.specs.Prelude.{ℕ, List, ◌++◌, vec_items}
use Rattle.planner.specs.declared.certificate.Certificate.{Certificate}

-- A certificate as it is written down: one entry for each programme, then one for each slot.
abbrev pub entries : Certificate → List ℕ
entries certificate = vec_items certificate.programmes ++ vec_items certificate.slots
