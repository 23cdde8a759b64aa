-- A region's yards are those below it, by the descent too. Assumes nothing.
use mathlib.Core.Path.{◌≡◌}
use mathlib.Core.Logic.{◌↔◌}
use mathlib.Core.List.Memᴰ.{head}
use mathlib.Core.List.Memᴰ.{tail}
use mathlib.Core.List.{List, [], ◌∷◌, Memᴰ as Mem}
use Prim.Native.Nat.{ℕ, zero, suc, ◌+◌, ◌≤◌, ◌<◌}
use native.Mathlib.Decide.{ℕ_discrete, dec_lt}
use native.Mathlib.Omega.{arith}
use lib.ListN.{length}
use Rattle.tree_layout.specs.Values.{Mark, Region, region_at}
use Rattle.tree_layout.specs.Decode.{decode}
use Rattle.tree_layout.proofs.Formed.{decode-formed, at_mem}
use Rattle.tree_layout.proofs.Places.{decode-landmarks}
use Rattle.tree_leaf.proofs.Named.{first_mark_lem}
use Rattle.tree.specs.Shape.{tree_refusal}
use Rattle.tree.specs.Yards.{children_of, gather, yards_below}
use Rattle.tree.specs.Facts.{Preorder, none as ended, tree, ChildrenOf}
use Rattle.tree.specs.Theorems.{Whole}
use Rattle.tree.specs.RegionYards.{YardOf, listed, child's}
use Rattle.tree.proofs.Members.{gather-mem, gather-from}
use Rattle.tree.proofs.Shaping.{children_are}
use Rattle.tree.proofs.Theorems.{tree-facts, accepted-whole}

-- a member's list has some length
some_member : {c : ℕ} (cs : List ℕ) → Mem c cs → 0 < length cs
some_member {c = c} [] k = elim k [ ]
some_member (x ∷ cs) k = omega arith

module _ (rs : List Region) where
  -- each region among subtrees in preorder has its children
  kin : {l i e : ℕ} {ks : List ℕ} → Preorder rs l i ks e → (r : ℕ) → i ≤ r → r < e → (cs : List ℕ) × ChildrenOf rs r cs
  kin ended r p q = absurd (omega arith)
  kin (tree {levels = l} {i = i} {m = m} {children = cs} h c g k) r p q = go (ℕ_discrete i r) (dec_lt r m) (λ w x. kin g r w x) (λ w. kin k r w q)
    where
      here : (ds : List ℕ) × ChildrenOf rs i ds
      here = (cs, record { count = c; levels = l; next = m; subtrees = g })

      go : Dec (i ≡ r) → Dec (r < m) → (suc i ≤ r → r < m → (ds : List ℕ) × ChildrenOf rs r ds) → (m ≤ r → (ds : List ℕ) × ChildrenOf rs r ds)
          → (ds : List ℕ) × ChildrenOf rs r ds
      go (yes w) d f s = rw w at here
      go (no w) (yes x) f s = f (omega arith) x
      go (no w) (no x) f s = s (omega arith)

-- of an accepted book
module _ (b : List ℕ) (ok : tree_refusal b ≡ 0) where
  abbrev rs : List Region
  rs = (decode b).regions

  whole : Whole (decode b)
  whole = accepted-whole b ok

  -- the children of a region, by the descent too
  own_children : (r : ℕ) → r < length rs → ChildrenOf rs r (children_of rs r)
  own_children r h =
      let x = kin rs (tree-facts b ok).shape.one-tree r (omega arith) h in
      rw (children_are rs whole.regions.ends r x.0 x.1) at x.1

  yard-below : {r y : ℕ} → YardOf rs r y → Mem y (yards_below rs r)
  yard-below (listed {r = r} {y = y} m h c k j) = (whole.holdings.listed r h c m k y).1 j
  yard-below (child's {r = r} {y = y} c cs h d k v) =
      let e = children_are rs whole.regions.ends r cs d in
      let p : 0 < (region_at rs r).children = omega (arith, d.count, some_member cs k) in
      rw (whole.holdings.joined r h p) (gather-mem (yards_below rs) (children_of rs r) c y (rw e at k) (yard-below v))

  -- a leaf has a list
  list_of : (r : ℕ) → r < length rs → (m : Mark) × Mem m (region_at rs r).marks
  list_of r h =
      let few = (tree-facts b ok).layout.landmarks.0 in
      let x = first_mark_lem (region_at rs r).marks (omega (arith, (decode-formed b (region_at rs r) (at_mem rs r h)).count, decode-landmarks b, few)) in
      (x.0, x.1)

  below_in : (n r y : ℕ) → length rs ≤ r + n → r < length rs → Mem y (yards_below rs r) → YardOf rs r y
  below_in zero r y s h k = absurd (omega arith)
  below_in (suc n) r y s h k = go (ℕ_discrete (region_at rs r).children 0) (λ c q p j. below_in n c y (omega arith) q j)
    where
      go : Dec ((region_at rs r).children ≡ 0) → ((c : ℕ) → c < length rs → r < c → Mem y (yards_below rs c) → YardOf rs c y) → YardOf rs r y
      go (yes c) rec = let m = list_of r h in listed m.0 h c m.1 ((whole.holdings.listed r h c m.0 m.1 y).0 k)
      go (no c) rec =
          let x = gather-from (yards_below rs) (children_of rs r) y (rw (whole.holdings.joined r h (omega arith)) at k) in
          let z = whole.regions.above r x.0 h x.1 in
          child's x.0 (children_of rs r) h (own_children r h) x.1 (rec x.0 z.1 z.0 x.2)

  pub region_yards : (r y : ℕ) → r < length rs → YardOf rs r y ↔ Mem y (yards_below rs r)
  region_yards r y h = ((λ v. yard-below v), (λ k. below_in (length rs) r y (omega arith) h k))
