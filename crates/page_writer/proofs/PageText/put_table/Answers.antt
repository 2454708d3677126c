use Rattle.std.proofs.Common.{◌≡◌, ◌-◌, ◌*◌, ◌/◌, length, ap, arith, rules}
use Rattle.std.proofs.lemmas.List.{length-take}
use Rattle.page_writer.specs.Texts.{text_of}
use Rattle.page_writer.specs.TablePage.{table_page}
use Rattle.page_writer.proofs.TableBack.{all_small, few_values, table_back}
use Rattle.page_writer.proofs.PageText.put_table.Goals as goal

pub returns-clause-back : goal.returns-clause-back
returns-clause-back c =
    let values = c.args.values.now in
    let e : text_of c.push_values.new.self ≡ table_page c.args.columns values = search rules in
    table_back c.args.columns values (all_small values (λ i. omega (arith, c.type_inv.values i))) _ e (omega (arith, ap length c.requires, few_values c.args.columns c.min-rows.result c.count-width.result (length values / c.count-width.result) c.count-width.ensures c.min-rows.ensures, length-take (c.min-rows.result * c.count-width.result - 0) values))
