-- Lemmas on digits, and on the loop that reads the numbers of a line.
use Rattle.std.proofs.Common.{◌≡◌, ℕ, suc, ◌+◌, ◌-◌, ◌^◌, ◌<◌, ◌≤◌, List, [], ◌∷◌, ◌++◌, length, take, set, Some, None, Option, sym, refl, ap, ◌∙◌, arith, length-set}
use native.Mathlib.Nat.{pow-le-pow_right}
use Rattle.std.proofs.lemmas.List.{take_more_set, append_assoc}
use Rattle.page_text.specs.Bytes.{whole, numbers, ahead, plus}

pub pow_under : (n i : ℕ) → n < 10 ^ i → i < 9 → n < 10 ^ 8
pow_under n i h k = let j : i ≤ 8 = omega arith in let p : 10 ^ i ≤ 10 ^ 8 = pow-le-pow_right (omega arith) j in omega arith

-- The loop that reads k numbers from words, at the index i: f has the first i of them.
pub record Reading (k : ℕ) (all : List (List ℕ)) (f : List ℕ) (i : ℕ) (ws : List (List ℕ)) : Type 0 where
  pub more : numbers k all ≡ ahead (take i f) (numbers (k - i) ws)
  pub long : length f ≡ k

ahead_ahead : (f g : List ℕ) (o : Option (List ℕ)) → ahead f (ahead g o) ≡ ahead (f ++ g) o
ahead_ahead f g None = refl
ahead_ahead f g (Some ms) = ap Some (sym (append_assoc f g ms))

module _ {k : ℕ} {all : List (List ℕ)} {f : List ℕ} {i : ℕ} {ws : List (List ℕ)} (r : Reading k all f i ws) where
  pub reading_more : (w : List ℕ) (us : List (List ℕ)) (n : ℕ) → i < k → ws ≡ w ∷ us → whole w ≡ Some n → Reading k all (set f i n) (i + 1) us
  reading_more w us n h e b =
      let m : k - i ≡ suc (k - (i + 1)) = omega arith in
      let l : i < length f = omega (arith, r.long) in
      let step : ahead (take i f) (numbers (k - i) ws) ≡ ahead (take i f) (ahead (n ∷ []) (numbers (k - (i + 1)) us)) = rw (e, m) (ap (λ o. ahead (take i f) (plus o (numbers (k - (i + 1)) us))) b) in
      record {
        more = r.more ∙ step ∙ ahead_ahead (take i f) (n ∷ []) _ ∙ ap (λ g. ahead g (numbers (k - (i + 1)) us)) (sym (take_more_set f i n l));
        long = length-set f i n ∙ r.long;
      }
