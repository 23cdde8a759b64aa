-- The regions of a list by number. Assumes nothing.
use mathlib.Core.Path.{◌≡◌, refl}
use mathlib.Core.List.{List, ◌∷◌}
use Prim.Native.Nat.{ℕ, suc}
use Rattle.tree_layout.specs.Values.{Region, region_at}

pub region_zero : (r : Region) (rs : List Region) → region_at (r ∷ rs) 0 ≡ r
unfolding region_at
region_zero r rs = refl

pub region_later : (r : Region) (rs : List Region) (i : ℕ) → region_at (r ∷ rs) (suc i) ≡ region_at rs i
unfolding region_at
region_later r rs i = refl
