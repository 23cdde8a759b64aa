-- A loop that fills a list from the front, one store a turn: after n turns it is `filled n v d`. Assumes nothing.
use mathlib.Core.Path.{◌≡◌, refl, ap}
use mathlib.Core.List.{List, [], ◌∷◌, ◌++◌}
use Prim.Native.Nat.{ℕ, zero, suc, ◌+◌, ◌≤◌, ◌<◌}
use native.Mathlib.Nat.{not-suc-le-zero, le_of_suc-le-suc}
use native.Mathlib.Numerals.{add-one}
use native.Mathlib.Omega.{arith}
use lib.ListN.{length, set, drop, replicate, drop_of_length-le}

module _ {A : Type 0} where
  -- d with its first n elements v
  unfoldable pub filled : ℕ → A → List A → List A
  filled n v d = replicate n v ++ drop n d

  pub filled_none : (v : A) (d : List A) → d ≡ filled 0 v d
  unfolding filled
  filled_none v d = refl

  filled-suc : (n : ℕ) (v : A) (d : List A) → n < length d → set (filled n v d) n v ≡ filled (suc n) v d
  unfolding filled
  filled-suc n v [] l = absurd (not-suc-le-zero l)
  filled-suc zero v (x ∷ d) l = refl
  filled-suc (suc n) v (x ∷ d) l = ap (λ (t : List A). v ∷ t) (filled-suc n v d (le_of_suc-le-suc l))

  -- one store more
  pub filled_more : (n : ℕ) (v : A) (d t : List A) → t ≡ filled n v d → n < length d → set t n v ≡ filled (n + 1) v d
  filled_more n v d t e l = rw (e, add-one) (filled-suc n v d l)

  all : (n : ℕ) (v : A) (d : List A) → length d ≤ n → filled n v d ≡ replicate n v
  unfolding filled
  all n v d l = rw (drop_of_length-le d l) (append-nil (replicate n v))
    where
      append-nil : (l : List A) → l ++ [] ≡ l
      append-nil [] = refl
      append-nil (x ∷ l) = ap (λ (t : List A). x ∷ t) (append-nil l)

  -- all of it
  pub filled-all : (n i : ℕ) (v : A) (d t : List A) → t ≡ filled i v d → length d ≡ n → i ≡ n → t ≡ replicate n v
  filled-all n i v d t e l f = rw (e, f) (all n v d (omega arith))

  -- what it is by its parts
  pub filled-parts : (n : ℕ) (v : A) (d : List A) → filled n v d ≡ replicate n v ++ drop n d
  unfolding filled
  filled-parts n v d = refl
