use Rattle.std.proofs.Common.{vec_items, sym, refl}
use Rattle.commands.specs.Pages.{week_of}
use Rattle.commands.proofs.Verdict.{test_passed}
use Rattle.planning.proofs.plan_pages.Goals as goal

pub returns : goal.returns
returns c =
    let read = c.in_ok-read.read in
    let told = c.in_ok-write_planned.ensures in (
      record {
        week = week_of read;
        xs = vec_items read.programmes;
        ys = vec_items read.slots;
        read = record { read = sym c.in_ok-read.ensures; programmes = refl; slots = refl };
        fit = test_passed _ 12 told.answer;
      },
      told.page,
    )
