-- A region's yards are the tree's yards in its range. Assumes nothing.
use mathlib.Core.Path.{◌≡◌, refl, ap}
use mathlib.Core.List.{List, Memᴰ as Mem}
use Prim.Native.Nat.{ℕ, suc, ◌-◌, ◌≤◌, ◌<◌}
use native.Mathlib.Decide.{ℕ_discrete, dec_lt}
use native.Mathlib.Omega.{arith}
use lib.ListN.{length}
use Rattle.tree_layout.specs.Values.{Region, Tree, region_at}
use Rattle.tree_layout.specs.Decode.{decode}
use Rattle.tree.specs.Shape.{tree_refusal}
use Rattle.tree.specs.Yards.{end_of, yards_below, tree_yards}
use Rattle.tree.specs.Theorems.{LeafOf, Whole}
use Rattle.tree.proofs.Forest.{Forest, none, leaf, wrap, join, end_is, Rooted}
use Rattle.tree.proofs.ForestLaws.{Sane, span, below_span, span-mem, visit, sub, leaf-order}
use Rattle.tree.proofs.Shaping.{root-end, root_forest, facts-shaped}
use Rattle.tree.proofs.Theorems.{layout_sane, layout-there, tree-facts, accepted-whole}

module _ (rs : List Region) where
  -- a region after another's subtree has a higher range
  pub subtree-order : Sane rs → {n i low high left e : ℕ} → Forest rs n i low high left e → (j k : ℕ) → i ≤ j → j < e → end_of rs j ≤ k → k < e
      → (region_at rs j).after ≤ (region_at rs k).first
  subtree-order sane (none h z) j k p q u v = absurd (omega arith)
  subtree-order sane (leaf {i = i} h x y z) j k p q u v = let w : j ≡ i = omega arith in absurd (omega (arith, ap (end_of rs) w))
  subtree-order sane (wrap {i = i} h x y z g) j k p q u v = go (ℕ_discrete i j) (λ w. subtree-order sane g j k w q u v)
    where
      go : Dec (i ≡ j) → (suc i ≤ j → (region_at rs j).after ≤ (region_at rs k).first) → (region_at rs j).after ≤ (region_at rs k).first
      go (yes w) rec = absurd (omega (arith, ap (end_of rs) w))
      go (no w) rec = rec (omega arith)
  subtree-order sane (join {m = m} a b d z g t) j k p q u v = go (dec_lt j m) (dec_lt k m) (λ w x. subtree-order sane g j k p w u x) (λ w. subtree-order sane t j
      k w q u v)
    where
      go : Dec (j < m) → Dec (k < m) → (j < m → k < m → (region_at rs j).after ≤ (region_at rs k).first) → (m ≤ j → (region_at rs j).after ≤ (region_at rs k).first)
          → (region_at rs j).after ≤ (region_at rs k).first
      go (yes w) (yes x) f s = f w x
      go (yes w) (no x) f s = omega (arith, (visit rs sane g j p w).high_ok, (visit rs sane t k (omega arith) v).low_ok)
      go (no w) x f s = s (omega arith)

-- the tree's yards are those of all regions
pub tree-span : (t : Tree) → tree_yards t ≡ span t.regions 0 (length t.regions)
unfolding tree_yards span
tree-span t = rw (let e : length t.regions - 0 ≡ length t.regions = omega arith in e) refl

-- of an accepted book
module _ (b : List ℕ) (ok : tree_refusal b ≡ 0) where
  abbrev rs : List Region
  rs = (decode b).regions

  sane : Sane rs
  sane = layout_sane b (tree-facts b ok).layout

  root : Rooted rs 0 (length rs)
  root = root_forest (decode b) sane (layout-there b (tree-facts b ok).layout) (facts-shaped (decode b) (tree-facts b ok).shape)

  -- a yard below a region is one of the tree's
  pub below-tree : (r y : ℕ) → r < length rs → Mem y (yards_below rs r) → Mem y (tree_yards (decode b))
  below-tree r y h k =
      let v = visit rs sane root r (omega arith) h in
      rw ((accepted-whole b ok).yards, below_span rs 0) (span-mem rs 0 (end_of rs 0) r (end_of rs r) y (omega arith) (omega (arith, v.up)) (omega (
        arith,
        v.down,
        root_ends,
      )) (rw (below_span rs r) at k))
    where
      root_ends : end_of rs 0 ≡ length rs
      root_ends = end_is rs 0 (length rs) (root-end (decode b) sane (layout-there b (tree-facts b ok).layout) (facts-shaped (decode b) (tree-facts b ok).shape))

  -- one of the tree's yards in a region's range is below it
  pub range-below : (r y : ℕ) → r < length rs → Mem y (tree_yards (decode b)) → (region_at rs r).first ≤ y → y < (region_at rs r).after → Mem y (yards_below rs r)
  range-below r y h k low high = let x = whole.leaf_of_lem y k in go x.0 x.1 (dec_lt x.0 r) (dec_lt x.0 (end_of rs r))
    where
      whole : Whole (decode b)
      whole = accepted-whole b ok

      go : (j : ℕ) → LeafOf rs y j → Dec (j < r) → Dec (j < end_of rs r) → Mem y (yards_below rs r)
      go j l (yes p) q = absurd (omega (arith, leaf-order rs sane root j r (omega arith) p h l.leaf, (whole.holdings.inside j y l.number l.holds).1))
      go j l (no p) (yes q) =
          rw (below_span rs r) (span-mem rs r (end_of rs r) j (end_of rs j) y (omega arith) (omega (arith, (visit rs sane root j (omega arith) l.number).up))
          (inside j l (omega arith) q) (rw (below_span rs j) at l.holds))
        where
          inside : (j : ℕ) → LeafOf rs y j → r ≤ j → j < end_of rs r → end_of rs j ≤ end_of rs r
          inside j l p q = (visit rs sane (sub-root) j p q).down
            where
              sub-root : Rooted rs r (end_of rs r)
              sub-root = sub rs sane root r (omega arith) h
      go j l (no p) (no q) = absurd (omega (
        arith,
        subtree-order rs sane root r j (omega arith) h (omega arith) l.number,
        (whole.holdings.inside j y l.number l.holds).0,
      ))
