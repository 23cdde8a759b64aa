-- The yards below a region of an accepted tree are those of any list of the tree's yards in its range. Assumes nothing.
use mathlib.Core.Path.{◌≡◌}
use mathlib.Core.List.{List}
use Prim.Native.Nat.{ℕ, ◌<◌}
use lib.ListN.{length}
use Rattle.tree_layout.specs.Values.{Region, region_at}
use Rattle.tree_layout.specs.Decode.{decode}
use Rattle.tree.specs.Shape.{tree_refusal}
use Rattle.tree.specs.Yards.{yards_below, tree_yards}
use Rattle.tree.proofs.Ranges.{below-tree, range-below}
use Rattle.tree.proofs.Theorems.{accepted-whole}
use Rattle.check_rules.specs.Truth.{within}
use Rattle.check_rules.specs.Facts.{Same}
use Rattle.check_rules.proofs.Within.{within-mem, mem-within}

module _ (b : List ℕ) (ok : tree_refusal b ≡ 0) (ys : List ℕ) (same : Same (tree_yards (decode b)) ys) where
  abbrev rs : List Region
  rs = (decode b).regions

  pub range_same : (r : ℕ) → r < length rs → Same (yards_below rs r) (within (region_at rs r).first (region_at rs r).after ys)
  range_same r h = record {
    to = λ y k. let x = (accepted-whole b ok).holdings.inside r y h k in
        mem-within (region_at rs r).first (region_at rs r).after ys y (same.to y (below-tree b ok r y h k)) x.0 x.1;
    from = λ y k. let x = within-mem (region_at rs r).first (region_at rs r).after ys y k in range-below b ok r y h (same.from y x.0) x.1 x.2;
  }
