-- A descent of fewer levels than there may be, for trees that are built. Assumes nothing.
use mathlib.Core.Path.{◌≡◌, refl}
use Prim.Native.Nat.{ℕ, ◌+◌, ◌-◌, ◌≤◌}
use native.Mathlib.Omega.{arith}
use lib.ListN.{length}
use lib.Dec.{T}
use Rattle.book.proofs.Choosing.{and_both}
use Rattle.book.proofs.Lists.{eq→eqb}
use Rattle.tree_layout.specs.Values.{Tree, region_at}
use Rattle.tree.specs.Shape.{end_at, is_at, subtree, levels, shaped}
use Rattle.tree.proofs.Forest.{more}

-- a descent of fewer levels that takes all regions, from a root with all yards, is a shape
pub shaped_by : (t : Tree) (l : ℕ) → l ≤ levels → subtree t.regions l 0 ≡ end_at (length t.regions) → (region_at t.regions 0).yards ≡ t.yards
    → T (shaped t)
unfolding shaped
shaped_by t l h e y =
    let s : levels ≡ (levels - l) + l = omega arith in
    let z : subtree t.regions levels 0 ≡ end_at (length t.regions) = rw s (more t.regions (levels - l) l 0 (length t.regions) e) in
    and_both (is_at (subtree t.regions levels 0) (length t.regions)) _ (rw z (eq→eqb (length t.regions) (length t.regions) refl)) (eq→eqb (region_at
    t.regions 0).yards t.yards y)
