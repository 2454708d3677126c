-- Questions about the numbers 1 to n: how many pass a test, whether all or any do, and which is the first.
use Rattle.std.specs.Prelude.{ℕ, zero, suc, ◌+◌, ◌-◌, Bool, true, false, cond, not, ◌&&◌, ◌||◌, Some, None, Option, nat_le}

infixr 25 ◌implies◌
-- If a holds, so does b.
abbrev pub ◌implies◌ : Bool → Bool → Bool
a implies b = not a || b

-- k is one of the numbers 1 to n.
abbrev pub within : ℕ → ℕ → Bool
within n k = nat_le 1 k && nat_le k n

-- How many of the numbers 1 to n pass the test.
abbrev pub count : (ℕ → Bool) → ℕ → ℕ
count test zero = 0
count test (suc n) = count test n + cond (test (suc n)) 1 0

-- Whether one of the numbers 1 to n passes the test.
abbrev pub any : (ℕ → Bool) → ℕ → Bool
any test zero = false
any test (suc n) = test (suc n) || any test n

-- Whether all of the numbers 1 to n pass the test.
abbrev pub all : (ℕ → Bool) → ℕ → Bool
all test zero = true
all test (suc n) = test (suc n) && all test n

-- The first of the `many` numbers from k on that passes the test.
unfoldable pub first_of : (ℕ → Bool) → ℕ → ℕ → Option ℕ
first_of test zero k = None
first_of test (suc many) k = cond (test k) (Some k) (first_of test many (suc k))

-- The first number from k on, up to last, that passes the test.
unfoldable pub first_from : (ℕ → Bool) → ℕ → ℕ → Option ℕ
first_from test last k = first_of test (suc last - k) k
