use Rattle.std.proofs.Common.{rules}
use Rattle.desk.proofs.lending.write_page.Goals as goal

pub returns : goal.returns
returns g c =
    let a = c.new-programmes.ensures.value in
    let b = c.new-slots.ensures.value in
    record { told = λ possible. rw (← a, ← b) (c.page_answer.ensures possible); lists = (search rules, search rules) }
