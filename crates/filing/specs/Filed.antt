-- What the pages of a handed-over week are made of: its plan and its certificate.
use Rattle.std.specs.Prelude.{ℕ, List}
use Rattle.plan.specs.Held.{Held}
use Rattle.week.specs.Sheets.{plan_in, certificate_in}
use Rattle.week.specs.declared.Week.{Week}
use Rattle.pages.specs.declared.table_pages.Columns.TheVariants.{One}
use Rattle.page_writer.specs.PlanPage.{plan_page}
use Rattle.page_writer.specs.TablePage.{table_page}
use Rattle.filing.specs.declared.Wanted.{Wanted}
use Rattle.filing.specs.declared.Wanted.TheVariants.{Plan, Certificate}

-- The plan with its attendance.
abbrev pub filed_plan : {State : Type 0} → Week State → Held
filed_plan week = plan_in week.sheet

-- The certificate, as it was stored.
abbrev pub filed_certificate : {State : Type 0} → Week State → List ℕ
filed_certificate week = certificate_in week.sheet

-- The page wanted, of the slot of each programme and of the entries of the certificate.
abbrev pub page_of : Wanted → ℕ → List ℕ → List ℕ → List ℕ
page_of Plan slots slot_of certificate = plan_page slots slot_of
page_of Certificate slots slot_of certificate = table_page One certificate
