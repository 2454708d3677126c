use Rattle.std.proofs.Common.{length, rules, ap}
use Rattle.pages.specs.Stages.{given as as_given}
use Rattle.pages.specs.TablePages.{Sheet}
use Rattle.pages.proofs.TableLaws.{table_entries}
use Rattle.pages.proofs.table_pages.read_table.Goals as goal

pub returns-in_err-read_into-clause-entries : goal.returns-in_err-read_into-clause-entries
returns-in_err-read_into-clause-entries c =
    table_entries c.args.columns (length c.args.table.now) c.args.page c.args.bytes.now _ (search rules) _ (search rules)

pub returns-clause-entries : goal.returns-clause-entries
returns-clause-entries c =
    table_entries c.args.columns (length c.args.table.now) c.args.page c.args.bytes.now _ (ap (as_given (λ (sheet : Sheet). sheet.rows)) c.in_ok-read_into.ensures.answer) _ (search rules)
