-- What is proved of a tree book: its tests accept exactly the facts of 01, and what follows from them. Assumes nothing.
use mathlib.Core.Path.{◌≡◌, refl, sym, ◌∙◌}
use mathlib.Core.Logic.{◌⊎◌, inl, inr, ◌≢◌, ◌↔◌}
use mathlib.Core.List.Memᴰ.{cases_cons}
use mathlib.Core.List.Memᴰ.{not-nil}
use mathlib.Core.List.{List, [], ◌∷◌, append-nil, Memᴰ as Mem}
use Prim.Native.Nat.{ℕ, suc, ◌+◌, ◌-◌, ◌≤◌, ◌<◌}
use native.Mathlib.Decide.{ℕ_discrete, dec_lt}
use native.Mathlib.Omega.{arith}
use lib.ListN.{length}
use lib.Dec.{T}
use Rattle.tree_layout.specs.Values.{Region, Tree, region_at}
use Rattle.book.proofs.Choosing.{passes, passed, first-none, first-later}
use Rattle.tree_layout.specs.Decode.{decode}
use Rattle.tree_layout.specs.Refusal.{tree_layout_refusal}
use Rattle.tree_layout.specs.Facts.{TreeLayout, RegionValues}
use Rattle.tree_layout.proofs.Accepting.{layout-facts, facts-layout}
use Rattle.tree_layout.proofs.Places.{decode-length, decode-junctions, decode-yards, decode-landmarks}
use Rattle.tree_layout.specs.code.Formed.{FormedTree}
use Rattle.tree_layout.proofs.Formed.{decode-formed, at_mem}
use Rattle.tree_leaf.specs.Leaf.{first_list}
use Rattle.tree.specs.Shape.{shaped, tree_refusal}
use Rattle.tree_leaf.specs.Leaf.{yards_in}
use Rattle.tree.specs.Yards.{end_of, starts, hops, children_of, gather, regions_reached, own_yards, yards_below, tree_yards, sum_from, one_leaf}
use Rattle.tree.specs.Yards.{one_inner, leaves, inners, on_way}
use Rattle.tree.specs.Facts.{Preorder}
use Rattle.tree.specs.Theorems.{TreeFacts, LeafOf, Regions, Holdings, Whole}
use Rattle.tree_leaf.proofs.Named.{list-facts, first-length}
use Rattle.tree.proofs.Forest.{Forest, none, leaf, wrap, join, end_is, rise, Rooted}
use Rattle.tree.proofs.ForestLaws.{Sane, span, sum, below_span, span_split, span_none, span-leaf, span-inner, own_leaf, own_inner, visit, child, parent, adopted}
use Rattle.tree.proofs.ForestLaws.{before_start, sub, leaf_ok_lem, leaf-order, yard-count, yard-range, yard-once, leaf-count, inner-count}
use Rattle.tree.proofs.Shaping.{inner_forest, EndsMeet, root-end, root_forest, root-yards, ends_meet, ranges_of, shape-facts, facts-shaped}
use Rattle.tree.proofs.Members.{yard-from}
use Rattle.tree.proofs.Siblings.{starts_none}
use Rattle.tree.proofs.Reaching.{on_way_lem, way_is, Nested, reached-all, level_high, level_low}

-- ---- what the layout gives

many_of : (c : ℕ) → (c ≡ 0) ⊎ ((2 ≤ c) × (c ≤ 4)) → 0 < c → 2 ≤ c
many_of c (inl e) h = absurd (omega arith)
many_of c (inr e) h = e.0

-- the regions of a tree of the layout's form and values
pub sane_of : (t : Tree) → FormedTree t → 1 ≤ t.landmarks → ((r : Region) → Mem r t.regions → RegionValues t.junctions r) → Sane t.regions
sane_of t f m v = record {
  range = λ j h. (at j h).range;
  many = λ j h c. many_of (region_at rs j).children (at j h).kind c;
  some = λ j h. (at j h).some;
  listed = λ j h c. first-length t.landmarks (region_at rs j).yards (region_at rs j).marks m (f (region_at rs j) (at_mem rs j h)).count (λ k i. ((f (region_at
      rs j) (at_mem rs j h)).lists c k i).1);
}
  where
    rs : List Region
    rs = t.regions

    at : (j : ℕ) → j < length rs → RegionValues t.junctions (region_at rs j)
    at j h = v (region_at rs j) (at_mem rs j h)

pub layout_sane : (b : List ℕ) → TreeLayout b → Sane (decode b).regions
layout_sane b l = sane_of (decode b) (decode-formed b) (rw (decode-landmarks b) l.landmarks.0) (rw (decode-junctions b) l.values)

pub layout-there : (b : List ℕ) → TreeLayout b → 1 ≤ length (decode b).regions
layout-there b l = rw (decode-length b) l.regions.0

-- ---- the tests accept exactly the facts

pub tree-facts : (b : List ℕ) → tree_refusal b ≡ 0 → TreeFacts b
unfolding tree_refusal
tree-facts b e =
    let p = first-none (tree_layout_refusal b) _ e in
    let l = layout-facts b p.0 in
    let q = passed (shaped (decode b)) 7 0 p.1 (omega arith) in
    record { layout = l; shape = shape-facts (decode b) (layout_sane b l) (layout-there b l) q.0 }

pub facts-tree : (b : List ℕ) → TreeFacts b → tree_refusal b ≡ 0
unfolding tree_refusal
facts-tree b f = first-later (tree_layout_refusal b) _ (facts-layout b f.layout) ∙ passes (shaped (decode b)) 7 0 (facts-shaped (decode b) f.shape)

-- a tree book is accepted if and only if the facts of "Tree book" and "Tree shape" hold of it
pub accepted_iff : (b : List ℕ) → (tree_refusal b ≡ 0) ↔ TreeFacts b
accepted_iff b = (tree-facts b, facts-tree b)

-- ---- yards below a region

module _ (rs : List Region) (sane : Sane rs) where
  -- a forest's yards are those below its roots, one root after the other
  gathered : {n i low high left e : ℕ} → Forest rs n i low high left e → gather (yards_below rs) (starts (end_of rs) n i) ≡ span rs i e
  unfolding gather starts
  gathered (none {i = i} h z) = sym (span_none rs i)
  gathered (leaf {i = i} h x y z) = append-nil (yards_below rs i) ∙ (below_span rs i ∙ rw z refl)
  gathered (wrap {i = i} h x y z g) = append-nil (yards_below rs i) ∙ (below_span rs i ∙ rw z refl)
  gathered (join {n = n} {i = i} {m = m} {e = e} a b c z g k) =
      let w : yards_below rs i ≡ span rs i m = below_span rs i ∙ rw z refl in
      rw (w, z, gathered k) (sym (span_split rs i m e (omega (arith, rise rs g)) (omega (arith, rise rs k))))

-- ---- a shaped tree

module _ (t : Tree) (sane : Sane t.regions) (there : 1 ≤ length t.regions) (ok : T (shaped t)) where
  abbrev rs : List Region
  rs = t.regions

  root : Rooted rs 0 (length rs)
  root = root_forest t sane there ok

  ends_at : EndsMeet rs
  ends_at = ends_meet t sane there ok

  end-zero : end_of rs 0 ≡ length rs
  end-zero = end_is rs 0 (length rs) (root-end t sane there ok)

  subtree-at : (r : ℕ) → r < length rs → Rooted rs r (end_of rs r)
  subtree-at r h = sub rs sane root r (omega arith) h

  nested : Nested rs
  nested i j h p q = (visit rs sane (subtree-at i h) j p q).down

  one-tree : Preorder rs 8 0 (0 ∷ []) (length rs)
  one-tree = (shape-facts t sane there ok).one-tree

  parent_of : (c : ℕ) → c < length rs → c ≢ 0 → (r : ℕ) × (r < length rs) × Mem c (children_of rs r)
  unfolding starts
  parent_of c h z = go (adopted rs sane root c (omega arith) h)
    where
      go : Mem c (0 ∷ []) ⊎ ((r : ℕ) × (0 ≤ r) × (r < length rs) × Mem c (children_of rs r)) → (r : ℕ) × (r < length rs) × Mem c (children_of rs r)
      go (inl k) = absurd (out (cases_cons k))
        where
          out : (c ≡ 0) ⊎ Mem c [] → ⊥
          out (inl e) = z e
          out (inr j) = not-nil j
      go (inr x) = (x.0, x.2, x.3)

  -- on the way to a child are the child and what is on the way to its region: a region between the two ends before the child
  child_way_of : (r c s : ℕ) → r < length rs → Mem c (children_of rs r) → T (on_way rs s c) ↔ ((s ≡ c) ⊎ T (on_way rs s r))
  unfolding children_of
  child_way_of r c s h k = (to, from)
    where
      x : (r < c) × (c < end_of rs r)
      x = child rs sane root r c (omega arith) h k

      inside : c < length rs
      inside = omega (arith, x.1, (visit rs sane root r (omega arith) h).down)

      inner : Dec (0 < (region_at rs r).children) → 0 < (region_at rs r).children
      inner (yes p) = p
      inner (no p) = absurd (not-nil (rw (let z : (region_at rs r).children ≡ 0 = omega arith in z, starts_none) at k))

      to : T (on_way rs s c) → (s ≡ c) ⊎ T (on_way rs s r)
      to t = go (ℕ_discrete s c) (dec_lt r s) (way_is rs s c t)
        where
          go : Dec (s ≡ c) → Dec (r < s) → (s ≤ c) × (c < end_of rs s) → (s ≡ c) ⊎ T (on_way rs s r)
          go (yes e) v w = inl e
          go (no e) (yes v) w = absurd (omega (
            arith,
            w.1,
            before_start rs sane (inner_forest rs root r (omega arith) h (inner (dec_lt 0 (region_at rs r).children))) c s k (omega arith) (omega (arith, w.0)),
          ))
          go (no e) (no v) w = inr (on_way_lem rs s r (omega arith) (omega (arith, x.0, w.1)))

      from : (s ≡ c) ⊎ T (on_way rs s r) → T (on_way rs s c)
      from (inl e) = on_way_lem rs s c (omega arith) (rw e (visit rs sane root c (omega arith) inside).up)
      from (inr t) = let w = way_is rs s r t in
          on_way_lem rs s c (omega (arith, x.0, w.0)) (omega (arith, x.1, nested s r (omega (arith, w.0)) w.0 w.1))

  pub tree-regions : Regions rs
  unfolding gather
  tree-regions = record {
    each-once = sym (append-nil (regions_reached rs 8 0)) ∙ (reached-all rs ends_at one-tree ∙ rw (let e : length rs - 0 ≡ length rs = omega arith in e) refl);
    above = λ r c h k. let x = child rs sane root r c (omega arith) h k in (x.0, omega (arith, x.1, (visit rs sane root r (omega arith) h).down));
    parent = parent_of;
    one_parent = λ r s c h k i j. parent rs sane root r s c (omega arith) h (omega arith) k i j;
    ends = ends_at;
    ends_above = λ r h. let x = visit rs sane root r (omega arith) h in (x.up, x.down);
    own_way = λ r h. on_way_lem rs r r (omega arith) (visit rs sane root r (omega arith) h).up;
    child_way = child_way_of;
    low_level = λ r h. level_low rs r (omega (arith, end-zero));
    high_level = λ r h. level_high rs ends_at nested one-tree r h;
  }

  -- ---- yards

  leaf-below : (r : ℕ) → r < length rs → (region_at rs r).children ≡ 0 → yards_below rs r ≡ yards_in (first_list (region_at rs r).marks)
  unfolding hops
  leaf-below r h c =
      let e : end_of rs r ≡ suc r = ends_at r h ∙ rw c refl in
      below_span rs r ∙ rw e (span-leaf rs sane r c)

  joined_of : (r : ℕ) → r < length rs → 0 < (region_at rs r).children → yards_below rs r ≡ gather (yards_below rs) (children_of rs r)
  unfolding children_of
  joined_of r h c =
      below_span rs r ∙ (span-inner rs sane r (end_of rs r) (visit rs sane root r (omega arith) h).up c
      ∙ sym (gathered rs sane (inner_forest rs root r (omega arith) h c)))

  pub tree-holdings : Holdings rs
  tree-holdings = record {
    joined = joined_of;
    ranges = ranges_of t sane there ok;
    inside = λ r y h k. yard-range rs sane (subtree-at r h) y (rw (below_span rs r) at k);
    once = λ r h. rw (below_span rs r) (yard-once rs sane (subtree-at r h));
    count = λ r h. rw (below_span rs r) (yard-count rs sane (subtree-at r h));
    listed = λ r h c m k y. let f = list-facts (region_at rs r) (leaf_ok_lem rs sane root r (omega arith) h c) m k in
        ((λ j. f.from_first y (rw (leaf-below r h c) at j)), (λ j. rw (leaf-below r h c) (f.to-first y j)));
    listed-once = λ r h c m k. (list-facts (region_at rs r) (leaf_ok_lem rs sane root r (omega arith) h c) m k).once-each;
  }

  yards_are : tree_yards t ≡ yards_below rs 0
  unfolding tree_yards yards_below
  yards_are = rw (end-zero, let e : length rs - 0 ≡ length rs = omega arith in e) refl

  leaf_where : (y : ℕ) → Mem y (tree_yards t) → (j : ℕ) × LeafOf rs y j
  unfolding tree_yards
  leaf_where y k = let x = yard-from rs (length rs) 0 y k in go x (ℕ_discrete (region_at rs x.0).children 0)
    where
      go : (x : (j : ℕ) × (0 ≤ j) × (j < 0 + length rs) × Mem y (own_yards (region_at rs j))) → Dec ((region_at rs x.0).children ≡ 0) → (j : ℕ) × LeafOf rs y j
      go x (yes c) =
          let h : x.0 < length rs = omega (arith, x.2) in
          (x.0, record { number = h; leaf = c; holds = rw (leaf-below x.0 h c) (rw (own_leaf rs sane x.0 c) at x.3) })
      go x (no c) = absurd (not-nil (rw (own_inner rs sane x.0 (omega arith)) at x.3))

  one-leaf_of : (y j k : ℕ) → LeafOf rs y j → LeafOf rs y k → j ≡ k
  one-leaf_of y j k a b = go (dec_lt j k) (dec_lt k j)
    where
      apart : (i e : ℕ) → LeafOf rs y i → LeafOf rs y e → i < e → ⊥
      apart i e x z h =
          omega (
            arith,
            leaf-order rs sane root i e (omega arith) h z.number x.leaf,
            (tree-holdings.inside i y x.number x.holds).1,
            (tree-holdings.inside e y z.number z.holds).0,
          )

      go : Dec (j < k) → Dec (k < j) → j ≡ k
      go (yes h) v = absurd (apart j k a b h)
      go (no h) (yes v) = absurd (apart k j b a v)
      go (no h) (no v) = omega arith

  sum_is : (f : Region → ℕ) → sum rs f 0 (length rs) ≡ sum_from rs f (length rs) 0
  unfolding sum
  sum_is f = rw (let e : length rs - 0 ≡ length rs = omega arith in e) refl

  leaves-few : leaves t ≤ t.yards
  unfolding leaves
  leaves-few = omega (arith, sum_is one_leaf, leaf-count rs sane root, root-yards t sane there ok)

  inners-few : suc (inners t) ≤ leaves t
  unfolding leaves inners
  inners-few = omega (arith, sum_is one_leaf, sum_is one_inner, inner-count rs sane root)

  pub whole_of : t.yards ≤ 256 → (region_at rs 0).after ≤ t.junctions → Whole t
  whole_of few top = record {
    regions = tree-regions;
    holdings = tree-holdings;
    yards = yards_are;
    yard-count = rw yards_are (tree-holdings.count 0 there ∙ root-yards t sane there ok);
    yard-once = rw yards_are (tree-holdings.once 0 there);
    yard-below = λ y k. omega (arith, (tree-holdings.inside 0 y there (rw yards_are at k)).1);
    leaf_of_lem = leaf_where;
    one-leaf = one-leaf_of;
    few-inners = omega (arith, leaves-few, inners-few);
    few-leaves = omega (arith, leaves-few);
  }

-- ---- of an accepted book

-- a tree book that is accepted holds a whole tree
pub accepted-whole : (b : List ℕ) → tree_refusal b ≡ 0 → Whole (decode b)
unfolding tree_refusal
accepted-whole b e =
    let p = first-none (tree_layout_refusal b) _ e in
    let l = layout-facts b p.0 in
    let q = passed (shaped (decode b)) 7 0 p.1 (omega arith) in
    let h = layout-there b l in
    whole_of (decode b) (layout_sane b l) h q.0 (rw (decode-yards b) l.yards.1) (rw (decode-junctions b) (l.values (region_at (decode b).regions 0)
    (at_mem (decode b).regions 0 h)).within)
