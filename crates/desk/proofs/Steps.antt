-- How a desk's week goes from one moment to the next.
use Rattle.std.proofs.Common.{◌≡◌, ℕ, Bool, true, false, cond, List, IfOk, IfErr, Ok, Err, vec_items, Result, sym, refl, ap, ◌∙◌, subst, true≢false}
use Rattle.refusal.specs.declared.Refusal.{Refusal}
use Rattle.refusal.specs.Refusals.{number_of, refusal_of, first_refusal}
use Rattle.week.specs.declared.Sheet.{Sheet}
use Rattle.week.specs.Planned.{Planned}
use Rattle.week.specs.Sheets.{plan_in, certificate_in}
use Rattle.desk.specs.declared.calls.Call.{Call}
use Rattle.desk.specs.declared.desks.Desk.{Desk}
use Rattle.source.specs.Missing.{pairs_if_any, possible_if_any}
use Rattle.desk.specs.declared.standing.Standing.{Standing}
use Rattle.desk.specs.Ledger.{Ledger, account}
use Rattle.desk.specs.Told.{Served, Told, done, told, outcome, is_done, or_refused}
use Rattle.desk.specs.Moments.{Moment, Meaning, answer, entered, open_after, replans}
use Rattle.desk.specs.Runs.{Stands}
use Rattle.desk.specs.Desks.{sheet_of, is_open, moment_of, Step}
use Rattle.desk.proofs.Entries.{plan_in_order}
use Rattle.desk.proofs.Telling.{accepted_told, refused_told}

-- a week with the same ledger, plan and certificate stands as well
pub same_stands : {P : Type 0} (reaches : P → P → Bool) (m n : Moment P) → n.ledger ≡ m.ledger → n.plan ≡ m.plan → n.certificate ≡ m.certificate → Stands reaches m → Stands reaches n
same_stands {P} reaches m n a b c s =
    let at : Ledger P → List ℕ → List ℕ → Moment P = λ l plan certificate. record { opened = n.opened; ledger = l; plan = plan; certificate = certificate } in
    let same : n ≡ at m.ledger m.plan m.certificate = ap (λ (l : Ledger P). at l n.plan n.certificate) a ∙ ap (λ (x : List ℕ). at m.ledger x n.certificate) b ∙ ap (λ (x : List ℕ). at m.ledger m.plan x) c in
    subst (λ (x : Moment P). Stands reaches x) (sym same) (record { ordered = s.ordered; best = s.best; entries = s.entries; passing = s.passing })

-- either way the same
pub cond_same : {X : Type 0} (b : Bool) (x y : X) → x ≡ y → cond b x y ≡ y
cond_same true x y e = e
cond_same false x y e = refl

module _ {S P E : Type 0} (M : Meaning S P E) (d e : Desk S P) where
  abbrev m : Moment P
  m = moment_of M d

  abbrev n : Moment P
  n = moment_of M e

  -- what planning leaves stands
  pub planned_stands : Planned M.reaches (pairs_if_any M.pairs e.source) (vec_items e.programmes) (vec_items e.slots) (plan_in (sheet_of e.standing)) (certificate_in (sheet_of e.standing)) → Stands M.reaches n
  planned_stands p =
      record {
        ordered = sym (plan_in_order (sheet_of e.standing).plan (pairs_if_any M.pairs e.source) (possible_if_any M.rules.possible e.source) (vec_items e.programmes) (vec_items e.slots)) ∙ p.fit;
        best = p.best;
        entries = p.entries;
        passing = p.passing;
      }

  module _ (call : Call S P E) (a : Served) where
    -- a call that enters nothing and keeps plan and certificate
    pub still_step : told a ≡ answer M call m → n.ledger ≡ m.ledger → cond (is_done (told a)) (entered M call m.ledger) m.ledger ≡ m.ledger → n.opened ≡ open_after call m.opened → n.plan ≡ m.plan → n.certificate ≡ m.certificate → Step M d call a e
    still_step told-right ledger entry opened plan certificate =
        record {
          follows = record {
            answered = told-right;
            entered = ledger ∙ sym entry ∙ ap (λ (t : Told). cond (is_done t) (entered M call m.ledger) m.ledger) told-right;
            opened = opened;
            kept = λ _. (plan, certificate);
          };
          stands = same_stands M.reaches m n ledger plan certificate;
        }

    -- a call that plans anew, or is refused
    pub planning_step : (r : Result (Unit {0}) Refusal) (tests : List (Bool × ℕ))
        → told a ≡ outcome r → refusal_of r ≡ first_refusal tests → answer M call m ≡ or_refused tests done
        → replans call ≡ true → n.opened ≡ open_after call m.opened
        → IfErr r (λ _. (sheet_of e.standing ≡ sheet_of d.standing) × (n.ledger ≡ m.ledger))
        → IfOk r (λ _. n.ledger ≡ entered M call m.ledger)
        → IfOk r (λ _. Planned M.reaches (pairs_if_any M.pairs e.source) (vec_items e.programmes) (vec_items e.slots) (plan_in (sheet_of e.standing)) (certificate_in (sheet_of e.standing)))
        → Step M d call a e
    planning_step (Ok u) tests says none asks new opened kept entry planned =
        let right : told a ≡ answer M call m = says ∙ accepted_told (first_refusal tests) done done none refl ∙ sym asks in
        record {
          follows = record {
            answered = right;
            entered = entry ∙ ap (λ (t : Told). cond (is_done t) (entered M call m.ledger) m.ledger) (sym says ∙ right);
            opened = opened;
            kept = λ still. absurd (true≢false (sym (rw (new, says) refl) ∙ still));
          };
          stands = λ _. planned_stands planned;
        }
    planning_step (Err x) tests says some asks new opened kept entry planned =
        let right : told a ≡ answer M call m = says ∙ refused_told (first_refusal tests) (number_of x) done some ∙ sym asks in
        still_step right kept.1 (ap (λ (t : Told). cond (is_done t) (entered M call m.ledger) m.ledger) says) opened (ap (λ (s : Sheet). (plan_in s).slot_of) kept.0) (ap certificate_in kept.0)

-- the week changes hands, and its sheet stays
pub standing_step : {S P E : Type 0} (M : Meaning S P E) (d : Desk S P) (s : Standing) (call : Call S P E) (a : Served)
    → told a ≡ answer M call (moment_of M d) → entered M call (moment_of M d).ledger ≡ (moment_of M d).ledger → is_open s ≡ open_after call (is_open d.standing) → sheet_of s ≡ sheet_of d.standing
    → Step M d call a (record { standing = s; source = d.source; programmes = d.programmes; slots = d.slots })
standing_step {S} {P} M d s call a right entry opened same =
    let e : Desk S P = record { standing = s; source = d.source; programmes = d.programmes; slots = d.slots } in
    still_step M d e call a right
    (ap (λ (x : Sheet). account (pairs_if_any M.pairs d.source) (possible_if_any M.rules.possible d.source) (vec_items d.programmes) (vec_items d.slots) (plan_in x).attendance) same)
    (cond_same (is_done (told a)) _ _ entry) opened (ap (λ (x : Sheet). (plan_in x).slot_of) same) (ap certificate_in same)
