-- What the pages of a week say, read in their order: the first fault decides.
use Rattle.std.specs.Prelude.{ℕ, ◌*◌, List, map, take, Ok, vec_items, Result}
use Rattle.refusal.specs.Limits.{side}
use Rattle.source.specs.Pairs.{Pairs}
use Rattle.grid.specs.GridPairs.{grid_pairs}
use Rattle.page_text.specs.declared.fault.Fault.{Fault}
use Rattle.page_text.specs.declared.fault.Page.TheVariants as page
use Rattle.pages.specs.Stages.{chain}
use Rattle.pages.specs.PairPages.{read_pairs}
use Rattle.priority_pages.specs.PriorityPages.{number_of, read_numbers}
use Rattle.pages.specs.declared.table_pages.Columns.TheVariants.{One}
use Rattle.pages.specs.TablePages.{read_table}
use Rattle.commands.specs.declared.week_pages.WeekRead.{WeekRead}
use Rattle.commands.specs.declared.filed_pages.FiledRead.{FiledRead}

-- A week: who may run where, and the priorities of both sides as numbers.
pub record Week : Type 0 where
  pub pairs : Pairs
  pub programmes : List ℕ
  pub slots : List ℕ

-- A week that the code has read.
abbrev pub week_of : WeekRead → Week
week_of week = record { pairs = grid_pairs week.pairs; programmes = map number_of (vec_items week.programmes); slots = map number_of (vec_items week.slots) }

-- The pages of pairs, of the programmes' priorities and of the slots' priorities.
abbrev pub read_week : List ℕ → List ℕ → List ℕ → Result Week Fault
read_week pairs programmes slots =
    chain (read_pairs page.Pairs pairs) (λ p.
    chain (read_numbers (2 * side) page.Programmes programmes) (λ xs.
    chain (read_numbers (2 * side) page.Slots slots) (λ ys.
    Ok (record { pairs = p; programmes = xs; slots = ys }))))

-- A filed week: the week, the pairs of its plan, and the entries of its certificate.
pub record Filed : Type 0 where
  pub week : Week
  pub plan : Pairs
  pub entries : List ℕ

-- A filed week that the code has read.
abbrev pub filed_of : FiledRead → Filed
filed_of filed = record { week = week_of filed.week; plan = grid_pairs filed.plan; entries = vec_items filed.entries }

-- The three pages of the week, then the page of the plan, then the page of the certificate.
abbrev pub read_filed : List ℕ → List ℕ → List ℕ → List ℕ → List ℕ → Result Filed Fault
read_filed pairs programmes slots plan proof =
    chain (read_week pairs programmes slots) (λ w.
    chain (read_pairs page.Plan plan) (λ q.
    chain (read_table One (2 * side) page.Proof proof) (λ sheet.
    Ok (record { week = w; plan = q; entries = take sheet.rows sheet.values }))))
