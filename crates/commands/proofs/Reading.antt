-- Pages that are read one after another.
use Rattle.std.proofs.Common.{◌≡◌, ℕ, ◌*◌, List, take, Ok, Err, Result, sym, ap, ◌∙◌, suc-ne-zero}
use Rattle.refusal.specs.Limits.{side}
use Rattle.source.specs.Pairs.{Pairs}
use Rattle.page_text.specs.declared.fault.Fault.{Fault}
use Rattle.page_text.specs.declared.fault.Page.TheVariants as page
use Rattle.pages.specs.Stages.{chain}
use Rattle.pages.specs.PairPages.{read_pairs}
use Rattle.priority_pages.specs.PriorityPages.{read_numbers}
use Rattle.pages.specs.declared.table_pages.Columns.TheVariants.{One}
use Rattle.pages.specs.Stages.{given}
use Rattle.pages.specs.TablePages.{Sheet, read_table, table_left}
use Rattle.commands.specs.Pages.{Week, Filed, read_week, read_filed}

-- what follows an accepted page
pub chain_ok : {X Y E : Type 0} (r : Result X E) (x : X) (f : X → Result Y E) → Ok x ≡ r → chain r f ≡ f x
chain_ok r x f e = ap (λ q. chain q f) (sym e)

pub chain_err : {X Y E : Type 0} (r : Result X E) (e : E) (f : X → Result Y E) → Err e ≡ r → chain r f ≡ Err e
chain_err r e f h = ap (λ q. chain q f) (sym h)

module _ (pairs programmes slots : List ℕ) (p : Pairs) (pairs-read : Ok p ≡ read_pairs page.Pairs pairs) where
  after_slots : List ℕ → List ℕ → Result Week Fault
  after_slots xs ys = Ok (record { pairs = p; programmes = xs; slots = ys })

  pub programmes_refused : (room : ℕ) (fault : Fault) → room ≡ 2 * side → Err fault ≡ read_numbers room page.Programmes programmes → Err fault ≡ read_week pairs programmes slots
  programmes_refused room fault e h =
      sym (chain_ok (read_pairs page.Pairs pairs) p _ pairs-read ∙ chain_err (read_numbers (2 * side) page.Programmes programmes) fault _ (h ∙ ap (λ n. read_numbers n page.Programmes programmes) e))

  module _ (xs : List ℕ) (room : ℕ) (wide : room ≡ 2 * side) (programmes-read : Ok xs ≡ read_numbers room page.Programmes programmes) where
    begun : (f : List ℕ → Result Week Fault) → chain (read_numbers (2 * side) page.Programmes programmes) f ≡ f xs
    begun f = chain_ok (read_numbers (2 * side) page.Programmes programmes) xs f (programmes-read ∙ ap (λ n. read_numbers n page.Programmes programmes) wide)

    pub slots_refused : (room : ℕ) (fault : Fault) → room ≡ 2 * side → Err fault ≡ read_numbers room page.Slots slots → Err fault ≡ read_week pairs programmes slots
    slots_refused room fault e h =
        sym (chain_ok (read_pairs page.Pairs pairs) p _ pairs-read ∙ begun _ ∙ chain_err (read_numbers (2 * side) page.Slots slots) fault _ (h ∙ ap (λ n. read_numbers n page.Slots slots) e))

    pub week_read : (ys : List ℕ) (room : ℕ) → room ≡ 2 * side → Ok ys ≡ read_numbers room page.Slots slots → Ok (record { pairs = p; programmes = xs; slots = ys }) ≡ read_week pairs programmes slots
    week_read ys room e h =
        sym (chain_ok (read_pairs page.Pairs pairs) p _ pairs-read ∙ begun _ ∙ chain_ok (read_numbers (2 * side) page.Slots slots) ys _ (h ∙ ap (λ n. read_numbers n page.Slots slots) e))

-- ---- the page of the certificate, the last of a filed week
module _ (w : Week) (q : Pairs) where
  last : Sheet → Result Filed Fault
  last sheet = Ok (record { week = w; plan = q; entries = take sheet.rows sheet.values })

  table_refused : (t : Result Sheet Fault) (fault : Fault) → Err fault ≡ given (λ sheet. sheet.rows) t → chain t last ≡ Err fault
  table_refused (Ok sheet) fault e = let z : ◌≡◌ {A = ℕ} 0 1 = cc in absurd (suc-ne-zero 0 (sym z))
  table_refused (Err f) fault e = let same : f ≡ fault = cc in ap Err same

  table_read : (t : Result Sheet Fault) (room rows : ℕ) (items entries : List ℕ) → Ok rows ≡ given (λ sheet. sheet.rows) t → items ≡ table_left room t → entries ≡ take rows items → chain t last ≡ Ok (record { week = w; plan = q; entries = entries })
  unfolding last
  table_read (Ok sheet) room rows items entries e i t =
      let same : rows ≡ sheet.rows = cc in
      let whole : take sheet.rows sheet.values ≡ entries = ap (λ n. take n sheet.values) (sym same) ∙ ap (take rows) (sym i) ∙ sym t in
      ap (λ (l : List ℕ). Ok (record { week = w; plan = q; entries = l })) whole
  table_read (Err f) room rows items entries e i t = let z : ◌≡◌ {A = ℕ} 0 1 = cc in absurd (suc-ne-zero 0 (sym z))

  module _ (pairs programmes slots plan proof : List ℕ) (week_read : Ok w ≡ read_week pairs programmes slots) (plan-read : Ok q ≡ read_pairs page.Plan plan) (room : ℕ) (wide : room ≡ 2 * side) where
    started : chain (read_table One room page.Proof proof) last ≡ read_filed pairs programmes slots plan proof
    unfolding last
    started =
        ap (λ n. chain (read_table One n page.Proof proof) last) wide
        ∙ sym (chain_ok (read_week pairs programmes slots) w _ week_read ∙ chain_ok (read_pairs page.Plan plan) q _ plan-read)

    pub proof_refused : (fault : Fault) → Err fault ≡ given (λ sheet. sheet.rows) (read_table One room page.Proof proof) → Err fault ≡ read_filed pairs programmes slots plan proof
    proof_refused fault h = sym (table_refused (read_table One room page.Proof proof) fault h) ∙ started

    pub filed_read : (rows : ℕ) (items entries : List ℕ) → Ok rows ≡ given (λ sheet. sheet.rows) (read_table One room page.Proof proof) → items ≡ table_left room (read_table One room page.Proof proof) → entries ≡ take rows items → Ok (record { week = w; plan = q; entries = entries }) ≡ read_filed pairs programmes slots plan proof
    filed_read rows items entries e i t = sym (table_read (read_table One room page.Proof proof) room rows items entries e i t) ∙ started
