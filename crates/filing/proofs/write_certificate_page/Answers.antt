use Rattle.std.proofs.Common.{◌≡◌, ℕ, true, leb, List, vec_items, refl, ap, ◌∙◌, subst, arith}
use Rattle.std.proofs.lemmas.Bool.{le-leb}
use Rattle.pages.specs.declared.table_pages.Columns.TheVariants.{One}
use Rattle.page_writer.specs.Texts.{text_of}
use Rattle.page_writer.specs.TablePage.{table_page, TableBack}
use Rattle.planner.specs.declared.certificate.Certificate.{Certificate}
use Rattle.week.specs.Sheets.{entry_count}
use Rattle.filing.proofs.Entries.{roomy_refusals, written_entries}
use Rattle.filing.proofs.write_certificate_page.Goals as goal

pub returns : goal.returns
returns g c =
    let sheet = c.args.week.now.sheet in
    let room : leb (entry_count sheet) 400 ≡ true = le-leb _ _ (omega (arith, sheet.certificate.lens.0, sheet.certificate.lens.1)) in
    let a = c.programmes.ensures ∙ ap (λ (x : Certificate). vec_items x.programmes) c.stored-stored.ensures in
    let b = c.slots.ensures ∙ ap (λ (x : Certificate). vec_items x.slots) c.stored-stored.ensures in
    let told = c.in_ok-certificate.ensures in
    let entries = written_entries (vec_items sheet.certificate.programmes) (vec_items sheet.certificate.slots) _ _ _ c.certificate.new.table _ a b refl told.told in
    record {
      answer = told.answer ∙ roomy_refusals _ _ room;
      kept = tt;
      page = c.write_table.ensures.text ∙ ap (table_page One) entries;
      back = subst (λ (es : List ℕ). TableBack One es (text_of c.write_table.new.self)) entries c.write_table.ensures.back;
    }
