-- Who may run where: counts, allowed pairs, and the questions about them. Numbers start at 1.
use Rattle.std.specs.Prelude.{◌≡◌, ℕ, min, Bool, false, cond, not, ◌&&◌, Option, ◌==◌}
use Rattle.refusal.specs.Limits.{side}
use Rattle.refusal.specs.Counting.{within, first_from}

-- Two counts, and a set of pairs: `allowed i s` says that programme i may run in slot s. Only pairs
-- within the counts are read (see `holds`), so what `allowed` says of others has no meaning.
pub record Pairs : Type 0 where
  pub programmes : ℕ
  pub slots : ℕ
  pub allowed : ℕ → ℕ → Bool

-- Both numbers are within the counts.
abbrev pub inside : Pairs → ℕ → ℕ → Bool
inside p i s = within p.programmes i && within p.slots s

-- The pair is within the counts, and allowed.
abbrev pub holds : Pairs → ℕ → ℕ → Bool
holds p i s = inside p i s && p.allowed i s

-- The first slot numbered `from` or more in which programme i may run, or none.
abbrev pub first_slot : Pairs → ℕ → ℕ → Option ℕ
first_slot p i from = first_from (λ s. holds p i s) p.slots from

-- The first programme numbered `from` or more that may run in slot s, or none.
abbrev pub first_programme : Pairs → ℕ → ℕ → Option ℕ
first_programme p s from = first_from (λ i. holds p i s) p.programmes from

-- The same counts.
abbrev pub same_counts : Pairs → Pairs → Type 0
same_counts p q = (p.programmes ≡ q.programmes) × (p.slots ≡ q.slots)

-- The set with the pair (i, s) in it, or not, as b says; every other pair stays.
abbrev pub with_pair : (ℕ → ℕ → Bool) → ℕ → ℕ → Bool → ℕ → ℕ → Bool
with_pair set i s b j t = cond (i == j && s == t) b (set j t)

-- The pairs with (i, s) allowed, or not, as b says.
abbrev pub changed : Pairs → ℕ → ℕ → Bool → Pairs
changed p i s b = record { programmes = p.programmes; slots = p.slots; allowed = with_pair p.allowed i s b }

-- The two sides exchanged.
abbrev pub turned : Pairs → Pairs
turned p = record { programmes = p.slots; slots = p.programmes; allowed = λ s i. p.allowed i s }

-- These counts, and no pair allowed.
abbrev pub empty_pairs : ℕ → ℕ → Pairs
empty_pairs programmes slots = record { programmes = programmes; slots = slots; allowed = λ i s. false }

-- The counts cut to the most that a side may have.
abbrev pub cut : Pairs → Pairs
cut p = record { programmes = min p.programmes side; slots = min p.slots side; allowed = p.allowed }

-- A layer over p: the counts cut, and the pairs that `out` names taken out.
abbrev pub layered : Pairs → (ℕ → ℕ → Bool) → Pairs
layered p out = record { programmes = (cut p).programmes; slots = (cut p).slots; allowed = λ i s. p.allowed i s && not (out i s) }
