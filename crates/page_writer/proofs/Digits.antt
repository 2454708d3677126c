-- Lemmas on how numbers are written.
use Rattle.std.proofs.Common.{◌≡◌, ℕ, zero, suc, ◌+◌, ◌/◌, ◌%◌, ◌^◌, ◌<◌, ◌≤◌, List, [], ◌∷◌, ◌++◌, length, get_or, take, decimal, sym, ap, ◌∙◌, append_assoc, arith}
use Rattle.std.specs.List.{flat_map, AllByRecursion}
use Rattle.std.proofs.lemmas.List.{length_push, flat_map_more, take_more}
use Rattle.std.proofs.lemmas.Fmt.{decimal_digit, decimal_step, length-decimal-le}
use Rattle.page_writer.specs.Texts.{spaced}

pub decimal_length : (n : ℕ) → 10 ≤ n → n < 2 ^ 64 → length (decimal n) ≡ length (decimal (n / 10)) + 1
decimal_length n h k = ap length (decimal_step n h k) ∙ length_push (decimal (n / 10)) (48 + n % 10)

pub push_one : (n : ℕ) → n < 10 → length (decimal n) ≡ 1
push_one n h = ap length (decimal_digit n h)

-- the last digit goes behind the others
pub push_more : (text mid out : List ℕ) (n : ℕ) → 10 ≤ n → n < 2 ^ 64 → mid ≡ text ++ decimal (n / 10) → out ≡ mid ++ (48 + n % 10) ∷ [] → out ≡ text ++ decimal n
push_more text mid out n h k e f = f ∙ ap (λ t. t ++ (48 + n % 10) ∷ []) e ∙ append_assoc text (decimal (n / 10)) ((48 + n % 10) ∷ []) ∙ ap (λ d. text ++ d) (sym (decimal_step n h k))

pub push_last : (text out : List ℕ) (n : ℕ) → n < 10 → out ≡ text ++ (48 + n % 10) ∷ [] → out ≡ text ++ decimal n
push_last text out n h f = let m : n % 10 ≡ n = omega arith in f ∙ ap (λ d. text ++ (48 + d) ∷ []) m ∙ ap (λ d. text ++ d) (sym (decimal_digit n h))

pub decimal_short : (n : ℕ) → n < 10 ^ 9 → length (decimal n) ≤ 9
decimal_short n h = length-decimal-le 9 n (omega arith) h (omega arith)

-- any number that the machine holds
pub decimal_fits : (n : ℕ) → n < 2 ^ 64 → length (decimal n) ≤ 20
decimal_fits n h = length-decimal-le 20 n (omega arith) (omega arith) h

pub small_at : (xs : List ℕ) → AllByRecursion (λ n. n < 10 ^ 9) xs → (i : ℕ) → get_or xs i 0 < 10 ^ 9
small_at [] a i = omega arith
small_at (x ∷ xs) a zero = a.0
small_at (x ∷ xs) a (suc i) = small_at xs a.1 i

-- one number more of a line
pub spaced_more : (start text mid out xs : List ℕ) (i : ℕ) → text ≡ start ++ flat_map spaced (take i xs) → mid ≡ text ++ 32 ∷ [] → out ≡ mid ++ decimal (get_or xs i 0) → i < length xs → out ≡ start ++ flat_map spaced (take (i + 1) xs)
spaced_more start text mid out xs i e f g h =
    g ∙ ap (λ t. t ++ decimal (get_or xs i 0)) f ∙ append_assoc text (32 ∷ []) (decimal (get_or xs i 0)) ∙ ap (λ t. t ++ spaced (get_or xs i 0)) e ∙ flat_map_more spaced start (take i xs) (get_or xs i 0) ∙ ap (λ ys. start ++ flat_map spaced ys) (sym (take_more xs i 0 h))
