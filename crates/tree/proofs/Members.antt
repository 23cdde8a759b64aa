-- Members of lists joined one after the other, the children of a region of no number, and the region of a yard. Assumes nothing.
use mathlib.Core.Path.{◌≡◌, refl}
use mathlib.Core.Logic.{◌⊎◌, inl, inr}
use mathlib.Core.List.Memᴰ.{head}
use mathlib.Core.List.Memᴰ.{not-nil}
use mathlib.Core.List.Memᴰ.{tail}
use mathlib.Core.List.{List, [], ◌∷◌, Memᴰ as Mem}
use mathlib.Core.List.Memᴰ.{append_cases}
use mathlib.Core.List.Memᴰ.{append_left}
use mathlib.Core.List.Memᴰ.{append_right}
use Prim.Native.Nat.{ℕ, zero, suc, ◌+◌, ◌≤◌, ◌<◌}
use native.Mathlib.Omega.{arith}
use lib.ListN.{length}
use Rattle.tree_layout.specs.Values.{Region, region_at}
use Rattle.tree_layout.proofs.Leasts.{children_out}
use Rattle.tree.specs.Yards.{starts, children_of, gather, own_yards, leaf_yards_from}

pub gather-mem : (f : ℕ → List ℕ) (cs : List ℕ) (c y : ℕ) → Mem c cs → Mem y (f c) → Mem y (gather f cs)
unfolding gather
gather-mem f [] c y x'' k = elim x'' [ ]
gather-mem f (x ∷ cs) c y (head e) k = append_left (gather f cs) (rw e at k)
gather-mem f (x ∷ cs) c y (tail j) k = append_right (f x) (gather-mem f cs c y j k)

pub gather-from : (f : ℕ → List ℕ) (cs : List ℕ) (y : ℕ) → Mem y (gather f cs) → (c : ℕ) × Mem c cs × Mem y (f c)
unfolding gather
gather-from f [] y k = absurd (not-nil k)
gather-from f (c ∷ cs) y k = go (append_cases (f c) k) (λ j. gather-from f cs y j)
  where
    go : Mem y (f c) ⊎ Mem y (gather f cs) → (Mem y (gather f cs) → (d : ℕ) × Mem d cs × Mem y (f d)) → (d : ℕ) × Mem d (c ∷ cs) × Mem y (f d)
    go (inl j) rec = (c, head refl, j)
    go (inr j) rec = let x = rec j in (x.0, tail x.1, x.2)

pub no_children : (rs : List Region) (r : ℕ) → length rs ≤ r → children_of rs r ≡ []
unfolding children_of starts
no_children rs r h = rw (children_out rs r h) refl

-- a yard of some regions is one of their own yards
pub yard-from : (rs : List Region) (n i y : ℕ) → Mem y (leaf_yards_from rs n i) → (j : ℕ) × (i ≤ j) × (j < i + n) × Mem y (own_yards (region_at rs j))
unfolding leaf_yards_from
yard-from rs zero i y k = absurd (not-nil k)
yard-from rs (suc n) i y k = go (append_cases (own_yards (region_at rs i)) k) (λ j. yard-from rs n (suc i) y j)
  where
    go : Mem y (own_yards (region_at rs i)) ⊎ Mem y (leaf_yards_from rs n (suc i)) → (Mem y (leaf_yards_from rs n (suc i))
        → (j : ℕ) × (suc i ≤ j) × (j < suc i + n) × Mem y (own_yards (region_at rs j))) → (j : ℕ) × (i ≤ j) × (j < i + suc n) × Mem y (own_yards (region_at rs j))
    go (inl j) rec = (i, omega arith, omega arith, j)
    go (inr j) rec = let x = rec j in (x.0, omega (arith, x.1), omega (arith, x.2), x.3)
