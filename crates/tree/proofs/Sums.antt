-- Sums over the regions of a list. Assumes nothing.
use mathlib.Core.Path.{◌≡◌, refl, ap}
use mathlib.Core.Logic.{◌⊎◌, inl, inr}
use mathlib.Core.Bool.{not}
use mathlib.Core.List.{List, ◌∷◌}
use Prim.Native.Nat.{ℕ, zero, suc, ◌+◌, ◌-◌}
use native.Mathlib.Omega.{arith}
use lib.ListN.{length}
use lib.Dec.{T, eqb}
use Rattle.book.specs.Choose.{choose}
use Rattle.book.proofs.Choosing.{choose_yes, choose_no, T-split}
use Rattle.tree_layout.specs.Values.{Region, region_at}
use Rattle.tree_layout.proofs.Numbered.{region_zero, region_later}
use Rattle.tree.specs.Yards.{sum_from, one_leaf, one_inner}
use Rattle.tree.proofs.ForestLaws.{sum}

sum_shift : (f : Region → ℕ) (r : Region) (rs : List Region) (n i : ℕ) → sum_from (r ∷ rs) f n (suc i) ≡ sum_from rs f n i
unfolding sum_from
sum_shift f r rs zero i = refl
sum_shift f r rs (suc n) i = rw (region_later r rs i) (ap (λ (x : ℕ). f (region_at rs i) + x) (sum_shift f r rs n (suc i)))

-- the sum over all regions of a list, one region at a time
pub sum-cons : (r : Region) (rs : List Region) (f : Region → ℕ) → sum_from (r ∷ rs) f (length (r ∷ rs)) 0 ≡ f r + sum_from rs f (length rs) 0
unfolding sum_from
sum-cons r rs f = rw (region_zero r rs) (ap (λ (x : ℕ). f r + x) (sum_shift f r rs (length rs) 0))

-- as a sum over an interval of numbers
pub sum-all : (rs : List Region) (f : Region → ℕ) → sum rs f 0 (length rs) ≡ sum_from rs f (length rs) 0
unfolding sum
sum-all rs f = rw (let e : length rs - 0 ≡ length rs = omega arith in e) refl

-- a region is a leaf or an inner one
each-one : (r : Region) → one_leaf r + one_inner r ≡ 1
unfolding one_leaf one_inner
each-one r = go (T-split (eqb r.children 0))
  where
    go : T (eqb r.children 0) ⊎ T (not (eqb r.children 0)) → choose {A = ℕ} (eqb r.children 0) 1 0 + choose {A = ℕ} (eqb r.children 0) 0 1 ≡ 1
    go (inl t) = omega (arith, choose_yes {A = ℕ} (eqb r.children 0) 1 0 t, choose_yes {A = ℕ} (eqb r.children 0) 0 1 t)
    go (inr t) = omega (arith, choose_no {A = ℕ} (eqb r.children 0) 1 0 t, choose_no {A = ℕ} (eqb r.children 0) 0 1 t)

pub all-counted : (rs : List Region) (n i : ℕ) → sum_from rs one_leaf n i + sum_from rs one_inner n i ≡ n
unfolding sum_from
all-counted rs zero i = refl
all-counted rs (suc n) i = omega (arith, each-one (region_at rs i), all-counted rs n (suc i))
