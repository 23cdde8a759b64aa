-- The parts of the values of a search's yards: their lengths, and what a store changes. Assumes nothing.
use mathlib.Core.Path.{◌≡◌, refl, ap, ◌∙◌}
use mathlib.Core.List.{List}
use Prim.Native.Nat.{ℕ, ◌+◌, ◌≤◌, ◌<◌}
use native.Mathlib.Omega.{arith}
use lib.ListN.{length, set}
use Rattle.search_state.specs.code.State.{value_count, bounds_at, fs_in, bounds_in}
use Rattle.search_state.proofs.Cells.{part_length, part_in, part_before, part_past}

-- what the parts of some values are
pub record Values (n : ℕ) (vs fs bounds : List ℕ) : Type 0 where
  pub fs_are : fs_in n vs ≡ fs
  pub bounds_are : bounds_in n vs ≡ bounds

pub values_of : (n : ℕ) (vs : List ℕ) → Values n vs (fs_in n vs) (bounds_in n vs)
values_of n vs = record { fs_are = refl; bounds_are = refl }

-- one store, at a place j that holds the value of a junction
module _ {n : ℕ} (few : n ≤ 1024) {vs fs bounds : List ℕ} (p : Values n vs fs bounds) (j x v : ℕ) (h : v < n) where
  pub store_f : j ≡ v → Values n (set vs j x) (set fs v x) bounds
  store_f e = record {
    fs_are = part_in vs 0 n v j x (omega arith) h ∙ ap (λ (l : List ℕ). set l v x) p.fs_are;
    bounds_are = part_before vs bounds_at n j x (omega arith) ∙ p.bounds_are;
  }

  pub store_bound : j ≡ bounds_at + v → Values n (set vs j x) fs (set bounds v x)
  store_bound e = record {
    fs_are = part_past vs 0 n j x (omega arith) ∙ p.fs_are;
    bounds_are = part_in vs bounds_at n v j x e h ∙ ap (λ (l : List ℕ). set l v x) p.bounds_are;
  }

-- their lengths
pub values-count : (n : ℕ) (vs : List ℕ) → n ≤ 1024 → length vs ≡ value_count → (length (fs_in n vs) ≡ n) × (length (bounds_in n vs) ≡ n)
values-count n vs few e = (part_length vs 0 n (omega arith), part_length vs bounds_at n (omega arith))
