-- A row's numbers, one distance at a time. Assumes nothing.
use mathlib.Core.Path.{◌≡◌, refl, ◌∙◌}
use mathlib.Core.List.{List}
use Prim.Native.Nat.{ℕ, ◌+◌, max, ◌<◌}
use native.Mathlib.Numerals.{add-one}
use lib.ListN.{take, get_or}
use lib.Seq.{get_or-take}
use Rattle.eccentricity.specs.Rows.{furthest_of, row_total}

module _ (ds : List ℕ) where
  pub none-far : 0 ≡ furthest_of ds 0
  unfolding furthest_of
  none-far = refl

  pub none-sum : 0 ≡ row_total ds 0
  unfolding row_total
  none-sum = refl

  -- the distance number v of the first n is y
  module _ (n v x y : ℕ) (inside : v < n) (read : y ≡ get_or (take n ds) v 0) where
    here : y ≡ get_or ds v 0
    here = read ∙ get_or-take n ds v 0 inside

    pub further : (r : ℕ) → x ≡ furthest_of ds v → r ≡ max x y → r ≡ furthest_of ds (v + 1)
    unfolding furthest_of
    further r e f = rw (f, add-one, e, here) refl

    pub more : x ≡ row_total ds v → x + y ≡ row_total ds (v + 1)
    unfolding row_total
    more e = rw (add-one, e, here) refl
