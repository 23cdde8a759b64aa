-- A region's level by two lists of ends that agree up to it. Assumes nothing.
use mathlib.Core.Path.{◌≡◌}
use Prim.Native.Nat.{ℕ, ◌≤◌}
use Rattle.tree.specs.Yards.{level_by}
use Rattle.tree.proofs.Filling.{level-same}

pub level_same : (f g : ℕ → ℕ) (i : ℕ) → ((x : ℕ) → x ≤ i → f x ≡ g x) → level_by f i ≡ level_by g i
level_same f g i same = level-same f g i same
