-- What a source that may be missing means: where there is none, no programmes, no slots and no pairs.
use Rattle.std.specs.Prelude.{ℕ, Bool, false, Option}
use Rattle.std.specs.Option.{option_map_or}
use Rattle.source.specs.Pairs.{Pairs, empty_pairs}

-- The pairs of the source, if there is one.
abbrev pub pairs_if_any : {S : Type 0} → (S → Pairs) → Option S → Pairs
pairs_if_any pairs source = option_map_or pairs source (empty_pairs 0 0)

-- The pairs that can be lifted.
abbrev pub possible_if_any : {S : Type 0} → (S → ℕ → ℕ → Bool) → Option S → ℕ → ℕ → Bool
possible_if_any possible source = option_map_or possible source (λ i s. false)
