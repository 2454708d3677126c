use Rattle.std.proofs.Common.{◌≡◌, drop}
use Rattle.page_text.specs.Bytes.{words}
use Rattle.desk_text.specs.Orders.{first_order}
use Rattle.desk_text.proofs.reading.first_order.Given as goal

-- the forms passed are not the line's
abbrev pub invariant-loop-form : goal.invariant-loop-form
invariant-loop-form l = first_order l.forms (words l.line) ≡ first_order (drop l.form-index l.forms) (words l.line)
