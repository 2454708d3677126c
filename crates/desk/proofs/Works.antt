-- A list of calls, worked one after the other.
use Rattle.std.proofs.Common.{◌≡◌, List, [], ◌∷◌, ◌++◌, length, sym, refl, ap, ◌∙◌, subst, append_assoc, append-nil, suc-ne-zero}
use Rattle.desk.specs.declared.calls.Call.{Call}
use Rattle.desk.specs.Told.{Served, told}
use Rattle.desk.specs.Moments.{Moment, Meaning}
use Rattle.desk.specs.Runs.{Stands, Follows, Worked}

-- the list so far is worked, and ends at the moment n
module _ {S P E : Type 0} (M : Meaning S P E) where
  abbrev pub Reaches : Moment P → List (Call S P E) → List Served → Moment P → Type 0
  Reaches m [] [] n = n ≡ m
  Reaches m [] (a ∷ answers) n = ⊥
  Reaches m (call ∷ calls) [] n = ⊥
  Reaches m (call ∷ calls) (a ∷ answers) n = (next : Moment P) × Follows M m call (told a) next × Stands M.reaches next × Reaches next calls answers n

  -- one call more
  pub reaches_more : (m : Moment P) (calls : List (Call S P E)) (answers : List Served) (n next : Moment P) (call : Call S P E) (a : Served)
      → Reaches m calls answers n → Follows M n call (told a) next → Stands M.reaches next → Reaches m (calls ++ call ∷ []) (answers ++ a ∷ []) next
  reaches_more m [] [] n next call a w f s = (next, subst (λ (x : Moment P). Follows M x call (told a) next) w f, s, refl)
  reaches_more m [] (b ∷ answers) n next call a w f s = absurd w
  reaches_more m (c ∷ calls) [] n next call a w f s = absurd w
  reaches_more m (c ∷ calls) (b ∷ answers) n next call a w f s = (w.0, w.1, w.2, reaches_more w.0 calls answers n next call a w.3 f s)

  pub reaches_worked : (m : Moment P) (calls : List (Call S P E)) (answers : List Served) (n : Moment P) → Reaches m calls answers n → Worked M m calls answers
  reaches_worked m [] [] n w = tt
  reaches_worked m [] (b ∷ answers) n w = absurd w
  reaches_worked m (c ∷ calls) [] n w = absurd w
  reaches_worked m (c ∷ calls) (b ∷ answers) n w = (w.0, w.1, w.2, reaches_worked w.0 calls answers n w.3)

-- a list that comes one by one
pub more_come : {X : Type 0} (xs : List X) {ys zs all : List X} {x : X} → ys ≡ x ∷ zs → xs ++ ys ≡ all → (xs ++ x ∷ []) ++ zs ≡ all
more_come xs {ys} {zs} {all} {x} e p = append_assoc xs (x ∷ []) zs ∙ ap (λ z. xs ++ z) (sym e) ∙ p

none_left : {X : Type 0} (xs ys : List X) → length ys ≡ 0 → xs ++ ys ≡ xs
none_left xs [] e = append-nil xs
none_left xs (y ∷ ys) e = absurd (suc-ne-zero (length ys) e)

pub all_come : {X : Type 0} (xs ys : List X) {zs : List X} → length ys ≡ 0 → xs ++ ys ≡ zs → xs ≡ zs
all_come xs ys e p = sym (none_left xs ys e) ∙ p
