-- How two priorities compare, by the one question of their kind: is a at least as high as b?
use Rattle.std.specs.Prelude.{◌≡◌, Bool, true, not, ◌&&◌, ◌||◌}

-- The two laws: of any two one is at least as high as the other, and the question is transitive.
pub record Ordered {P : Type 0} (reaches : P → P → Bool) : Type 0 where
  pub total : (a b : P) → (reaches a b || reaches b a) ≡ true
  pub transitive : (a b c : P) → reaches a b ≡ true → reaches b c ≡ true → reaches a c ≡ true

-- Level: each is at least as high as the other.
abbrev pub level : {P : Type 0} → (P → P → Bool) → P → P → Bool
level reaches a b = reaches a b && reaches b a

-- Higher: it alone is at least as high as the other.
abbrev pub higher : {P : Type 0} → (P → P → Bool) → P → P → Bool
higher reaches a b = reaches a b && not (reaches b a)
