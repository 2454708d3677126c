use Rattle.std.proofs.Common.{rules}
use Rattle.desk.proofs.Entries.{entered_lent, kept_lent}
use Rattle.desk.proofs.lending.edit_week.Goals as goal

pub returns : goal.returns
returns g c =
    let told = c.make.ensures in
    let a = c.new-programmes.ensures.value in
    let b = c.new-slots.ensures.value in
    record {
      answer = rw (← a, ← b) told.answer;
      kept = rw (← a, ← b) (kept_lent c.make.result _ _ _ _ _ _ _ _ _ _ told.kept (search rules) (search rules));
      entered = rw (← a, ← b) (entered_lent c.make.result _ _ _ _ _ _ _ _ told.entered (search rules) (search rules));
      planned = search rules;
    }
