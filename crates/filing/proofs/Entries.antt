-- The entries of a certificate, as they are written.
use Rattle.std.proofs.Common.{◌≡◌, ℕ, ◌+◌, ◌-◌, Bool, true, List, ◌++◌, length, take, drop, Option, ap, arith, length-append}
use lib.Seq.{take-append_seam}
use Rattle.refusal.specs.Refusals.{first_refusal}
use Rattle.plan.specs.Parts.{whole_refusals}
use Rattle.week.specs.Calls.{certificate_refusals}
use Rattle.week.specs.Sheets.{over}

-- where the table has room, only parts that do not fit together are refused
pub roomy_refusals : (fit room : Bool) → room ≡ true → first_refusal (certificate_refusals fit room) ≡ first_refusal (whole_refusals fit)
roomy_refusals fit room e = ap {B = Option ℕ} (λ b. first_refusal (certificate_refusals fit b)) e

-- the part of the table that is written
pub written_entries : (xs ys us vs table last : List ℕ) (n : ℕ) → us ≡ xs → vs ≡ ys → n ≡ length us + length vs → last ≡ over (xs ++ ys) table → take (n - 0) last ≡ xs ++ ys
written_entries xs ys us vs table last n ea eb count e =
    let len : n - 0 ≡ length (xs ++ ys) = omega (arith, ap length ea, ap length eb, length-append xs ys) in
    rw (e, len) (take-append_seam (xs ++ ys) (drop (length (xs ++ ys)) table))
