-- A number that is carried along the yards of a list that lie in a range. Assumes nothing.
use mathlib.Core.Path.{◌≡◌, refl, sym, ◌∙◌}
use mathlib.Core.Bool.{Bool, true, false, ◌&&◌}
use mathlib.Core.List.{List, [], ◌∷◌}
use Prim.Native.Nat.{ℕ, ◌+◌, ◌≤◌, ◌<◌}
use lib.ListN.{length, get_or, drop, drop_of_length-le}
use lib.Dec.{ltb, leb}
use Rattle.book.specs.Choose.{choose}
use Rattle.book.proofs.Choosing.{choose_yes, choose_no}
use Rattle.tree_layout.proofs.Turns.{drop-next}
use Rattle.check_rules.specs.Truth.{within}
use Rattle.check_rules.proofs.Within.{within_empty}

-- a number that is carried along a list: `fold x ys` is that of the list, `next` that of one yard
module _ (fold : ℕ → List ℕ → ℕ) (next : ℕ → ℕ → ℕ) (none : (x : ℕ) → fold x [] ≡ x)
    (more : (x y : ℕ) (ys : List ℕ) → fold x (y ∷ ys) ≡ fold (next x y) ys) (low high x y : ℕ) where
  -- by whether the yard is in the range
  pub outside : (leb low y && ltb y high) ≡ false → x ≡ fold x (within low high (y ∷ []))
  unfolding within
  outside h = rw (h, choose_no false (y ∷ []) [] tt) (sym (none x))

  pub inside : (leb low y && ltb y high) ≡ true → next x y ≡ fold x (within low high (y ∷ []))
  unfolding within
  inside h = rw (h, choose_yes true (y ∷ []) [] tt) (sym (more x y [] ∙ none (next x y)))

  -- the yard, then the later ones
  onward : (ys : List ℕ) → fold (fold x (within low high (y ∷ []))) (within low high ys) ≡ fold x (within low high (y ∷ ys))
  unfolding within
  onward ys = go (leb low y && ltb y high)
    where
      go : (t : Bool) → fold (fold x (choose t (y ∷ []) [])) (within low high ys) ≡ fold x (choose t (y ∷ within low high ys) (within low high ys))
      go true =
          rw (
            choose_yes true (y ∷ []) [] tt,
            choose_yes true (y ∷ within low high ys) (within low high ys) tt,
            more x y [],
            none (next x y),
            more x y (within low high ys),
          ) refl
      go false = rw (choose_no false (y ∷ []) [] tt, choose_no false (y ∷ within low high ys) (within low high ys) tt, none x) refl

-- with k of a list's yards done
module _ (fold : ℕ → List ℕ → ℕ) (next : ℕ → ℕ → ℕ) (none : (x : ℕ) → fold x [] ≡ x)
    (more : (x y : ℕ) (ys : List ℕ) → fold x (y ∷ ys) ≡ fold (next x y) ys) (low high : ℕ) (ys : List ℕ) where
  pub turn : (k x z y : ℕ) → k < length ys → y ≡ get_or ys k 0 → z ≡ fold x (within low high (y ∷ []))
      → fold z (within low high (drop (k + 1) ys)) ≡ fold x (within low high (drop k ys))
  turn k x z y h e f =
      rw (drop-next ys 0 k h, ← e, f) (onward fold next none more low high x y (drop (k + 1) ys))

  pub ended : (k x : ℕ) → length ys ≤ k → fold x (within low high (drop k ys)) ≡ x
  ended k x h = rw (drop_of_length-le ys h, within_empty low high) (none x)
