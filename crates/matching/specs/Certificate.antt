-- What a certificate is, the rules that it keeps, and the theorems that make it one.
-- The rules are written for the programmes. The slots keep the same rules on the turned board.
use Rattle.std.specs.Prelude.{◌≡◌, ℕ, Bool, true, false, not, ◌&&◌, ◌≢◌, ◌==◌}
use Rattle.refusal.specs.Counting.{any, within}
use Rattle.refusal.specs.Tables.{holds_at}
use Rattle.matching.specs.Board.{Board, Plan, size, turn, turned, free, slot_free, placed, tally, digit, Lawful, Best}

-- A certificate: which programme each programme names, and which slot each slot names. 0 names nobody.
pub record Certificate : Type 0 where
  pub programmes : ℕ → ℕ
  pub slots : ℕ → ℕ

-- Both programmes have a priority, and that of i is at least as high as that of w.
abbrev pub at_least : {P : Type 0} {reaches : P → P → Bool} → Board reaches → ℕ → ℕ → Bool
at_least {reaches} board i w = holds_at reaches board.programmes.priorities i w

module _ {P : Type 0} {reaches : P → P → Bool} (board : Board reaches) (plan : Plan) (names : ℕ → ℕ) where
  -- Programme j runs in slot s, and names one at least as high as w.
  abbrev pub blocks : ℕ → ℕ → ℕ → Bool
  blocks w s j = plan j s && (not (names j == 0) && at_least board (names j) w)

  -- What programme i owes where it names someone. (Free means present where no pair is locked.)
  pub record Naming (i : ℕ) : Type 0 where
    -- rule 2: the one it names is present and unplaced, and i is present and at least as high
    pub named_free : free board (names i) ≡ true
    pub named_unplaced : placed board plan (names i) ≡ false
    pub namer_free : free board i ≡ true
    pub namer_as_high : at_least board i (names i) ≡ true
    -- rule 3: each present slot allowed to i is filled, by one that names one at least as high
    pub blocked : (s : ℕ) → slot_free board s ≡ true → board.allowed i s ≡ true → any (blocks (names i) s) (size board.programmes) ≡ true

  pub record Rules : Type 0 where
    -- rule 1: a present programme that is not placed names itself
    pub unplaced : (i : ℕ) → free board i ≡ true → placed board plan i ≡ false → names i ≡ i
    -- rules 2 and 3, for each programme that names someone
    pub naming : (i : ℕ) → within (size board.programmes) i ≡ true → names i ≢ 0 → Naming i

-- A plan passes with a certificate: it is lawful, the programmes keep the rules, and so do the slots.
pub record Passes {P : Type 0} {reaches : P → P → Bool} (board : Board reaches) (plan : Plan) (certificate : Certificate) : Type 0 where
  pub lawful : Lawful board plan
  pub programmes : Rules board plan certificate.programmes
  pub slots : Rules (turn board) (turned plan) certificate.slots

-- Theorem: a plan that passes with some certificate is best.
abbrev pub PassingIsBest : {P : Type 0} → (P → P → Bool) → Type 0
PassingIsBest reaches = (board : Board reaches) (plan : Plan) (certificate : Certificate) → Passes board plan certificate → Best board plan

-- Theorem: any two best plans of a board have the same tally and the same digit at every p.
abbrev pub BestPlansAgree : {P : Type 0} → (P → P → Bool) → Type 0
BestPlansAgree {P} reaches = (board : Board reaches) (a b : Plan) → Best board a → Best board b → (p : P) → (tally board a p ≡ tally board b p) × (digit board a p ≡ digit board b p)
