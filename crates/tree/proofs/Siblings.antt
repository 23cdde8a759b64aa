-- The numbers of siblings, one at a time. Assumes nothing.
use mathlib.Core.Path.{◌≡◌, refl}
use mathlib.Core.List.{List, [], ◌∷◌}
use Prim.Native.Nat.{ℕ, suc}
use Rattle.tree_layout.specs.Values.{Region, region_at}
use Rattle.tree.specs.Yards.{end_of, starts, children_of}

pub starts_none : (f : ℕ → ℕ) (i : ℕ) → starts f 0 i ≡ []
unfolding starts
starts_none f i = refl

pub starts_more : (f : ℕ → ℕ) (n i : ℕ) → starts f (suc n) i ≡ i ∷ starts f n (f i)
unfolding starts
starts_more f n i = refl

-- a region's children are siblings, of which the first has the number after it
pub children_are : (rs : List Region) (r : ℕ) → children_of rs r ≡ starts (end_of rs) (region_at rs r).children (suc r)
unfolding children_of
children_are rs r = refl
