-- Laws of the numbers of regions and of sums over them. Assumes nothing.
use mathlib.Core.Path.{◌≡◌, refl}
use mathlib.Core.Logic.{◌≢◌}
use mathlib.Core.List.Memᴰ.{head}
use mathlib.Core.List.Memᴰ.{tail}
use mathlib.Core.List.{List, [], ◌∷◌, Memᴰ as Mem}
use Prim.Native.Nat.{ℕ, zero, suc, ◌+◌, ◌≤◌, ◌<◌}
use native.Mathlib.Decide.{ℕ_discrete}
use native.Mathlib.Omega.{arith}
use lib.ListN.{length}
use lib.Dec.{eqb}
use Rattle.book.specs.Choose.{choose}
use Rattle.tree_layout.specs.Values.{Region, Tree, region_at}
use Rattle.tree.specs.Yards.{numbers, sum_from, one_inner, inners}

pub numbers-none : (i : ℕ) → numbers 0 i ≡ []
unfolding numbers
numbers-none i = refl

pub numbers_more : (n i : ℕ) → numbers (suc n) i ≡ i ∷ numbers n (suc i)
unfolding numbers
numbers_more n i = refl

-- every number from i on, up to n of them
pub numbers-mem : (n i v : ℕ) → i ≤ v → v < i + n → Mem v (numbers n i)
unfolding numbers
numbers-mem zero i v h k = absurd (omega arith)
numbers-mem (suc n) i v h k = go (ℕ_discrete v i) (λ p. numbers-mem n (suc i) v (omega arith) (omega arith))
  where
    go : Dec (v ≡ i) → (v ≢ i → Mem v (numbers n (suc i))) → Mem v (i ∷ numbers n (suc i))
    go (yes p) rec = head p
    go (no p) rec = tail (rec p)

pub sum-none : (rs : List Region) (f : Region → ℕ) (i : ℕ) → sum_from rs f 0 i ≡ 0
unfolding sum_from
sum-none rs f i = refl

pub sum_more : (rs : List Region) (f : Region → ℕ) (n i : ℕ) → sum_from rs f (suc n) i ≡ f (region_at rs i) + sum_from rs f n (suc i)
unfolding sum_from
sum_more rs f n i = refl

-- the inner regions are counted one by one
pub one-inner : (r : Region) → one_inner r ≡ choose (eqb r.children 0) 0 1
unfolding one_inner
one-inner r = refl

pub inners-sum : (t : Tree) → inners t ≡ sum_from t.regions one_inner (length t.regions) 0
unfolding inners
inners-sum t = refl
