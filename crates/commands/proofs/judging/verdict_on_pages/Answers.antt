use Rattle.std.proofs.Common.{ℕ, List, vec_items, sym, refl, ap, ◌∙◌}
use Rattle.grid.specs.GridPairs.{grid_pairs}
use Rattle.commands.specs.Pages.{filed_of}
use Rattle.commands.specs.Judging.{pages_fit, accepts, reaches_number}
use Rattle.commands.proofs.Verdict.{test_passed}
use Rattle.commands.proofs.judging.verdict_on_pages.Goals as goal

pub returns : goal.returns
returns c =
    let read = c.in_ok-week.field-0 in
    let xs = vec_items read.week.programmes in
    let ys = vec_items read.week.slots in
    let same = c.deref.ensures.value in (
      filed_of read,
      xs,
      ys,
      record { read = sym c.in_ok-week.ensures; programmes = refl; slots = refl },
      ap (λ (es : List ℕ). pages_fit (grid_pairs read.week.pairs) xs ys (grid_pairs read.plan) es) (sym same) ∙ test_passed _ 12 c.in_ok-verdict.ensures.answer,
      c.in_ok-verdict.ensures.told ∙ ap (λ (es : List ℕ). accepts reaches_number (grid_pairs read.week.pairs) xs ys (grid_pairs read.plan) es) same,
    )
