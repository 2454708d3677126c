use Rattle.std.proofs.Common.{◌≤◌, length, vec_items, ◌∙◌, rules}
use Rattle.fit.proofs.ListedPairs.{fits_read}
use Rattle.fit.proofs.Fit.is_allowed.Goals as goal

pub returns-then-is_within-2 : goal.returns-then-is_within-2
returns-then-is_within-2 c =
    let fit = c.args.self.now in
    let i : (1 ≤ c.args.programme) × (c.args.programme ≤ length (vec_items fit.programmes)) = search rules in
    let s : (1 ≤ c.args.slot) × (c.args.slot ≤ length (vec_items fit.slots)) = search rules in
    c.fits.ensures ∙ fits_read (vec_items fit.programmes) (vec_items fit.slots) c.args.programme c.args.slot _ _ i.0 i.1 s.0 s.1 c.index.ensures c.index-then-is_within-2.ensures
