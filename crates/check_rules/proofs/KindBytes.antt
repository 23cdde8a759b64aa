-- The test of kinds holds of an accepted tree exactly if its kind bytes are true. Assumes nothing.
use mathlib.Core.Path.{◌≡◌, ◌∙◌}
use mathlib.Core.Bool.{Bool, true, ◌&&◌}
use mathlib.Core.List.{List, [], ◌∷◌, Memᴰ as Mem}
use Prim.Native.Nat.{ℕ, zero, suc, ◌+◌, ◌≤◌, ◌<◌}
use native.Mathlib.Decide.{ℕ_discrete}
use native.Mathlib.Omega.{arith}
use lib.ListN.{length}
use lib.Dec.{T, eqb, eqb→eq}
use Rattle.book.proofs.Choosing.{T_true, true_T, and_left, and_right, and_both}
use Rattle.book.proofs.Lists.{eq→eqb}
use Rattle.kinds.specs.Kinds.{together}
use Rattle.kinds.specs.Facts.{BitsOf}
use Rattle.kinds.proofs.Laws.{together-bits, one_byte}
use Rattle.tree_layout.specs.Values.{Element, Mark, Region, Tree, region_at}
use Rattle.tree_layout.specs.Decode.{decode}
use Rattle.tree_layout.specs.Refusal.{all}
use Rattle.tree_layout.proofs.Tests.{all-mem, all_intro}
use Rattle.tree_layout.proofs.Formed.{at_mem}
use Rattle.tree_layout.proofs.Rising.{region_mem}
use Rattle.tree.specs.Shape.{tree_refusal}
use Rattle.tree.specs.Yards.{yards_below, tree_yards}
use Rattle.check_rules.specs.Truth.{kinds_element, kinds_list, kinds_region, kinds_from, kinds_tree, within, kinds_beside_region, kinds_beside}
use Rattle.check_rules.specs.Facts.{TrueKinds, Same}
use Rattle.check_rules.proofs.Extremes.{same_swap}
use Rattle.check_rules.proofs.InRange.{range_same}

-- the first of two tests compares numbers
first_equal : (x y : ℕ) (later : Bool) → T (eqb x y && later) → x ≡ y
first_equal x y later t = eqb→eq x y (and_left (eqb x y) later t)

-- ---- a region, with a list of its yards

-- what the test of a region says
pub record RegionKinds (kinds : ℕ → ℕ) (ys : List ℕ) (r : Region) : Type 0 where
  pub byte : r.kinds ≡ together kinds ys
  pub list : (m : Mark) → Mem m r.marks → (e : Element) → Mem e m.list → e.kinds ≡ kinds e.yard

module _ (kinds : ℕ → ℕ) (ys : List ℕ) (r : Region) where
  pub test-kinds : T (kinds_region kinds ys r) → RegionKinds kinds ys r
  unfolding kinds_region kinds_list kinds_element
  test-kinds t = record {
    byte = omega (arith, first_equal);
    list = λ m k e i. eqb→eq e.kinds (kinds e.yard) (all-mem (kinds_element kinds) m.list (all-mem (kinds_list kinds) r.marks (and_right (eqb r.kinds (together kinds ys)) _ t) m k) e i);
  }

  pub kinds-test : RegionKinds kinds ys r → T (kinds_region kinds ys r)
  unfolding kinds_region kinds_list kinds_element
  kinds-test f = and_both (eqb r.kinds (together kinds ys)) (all (kinds_list kinds) r.marks)
      (eq→eqb r.kinds (together kinds ys) f.byte)
      (all_intro (kinds_list kinds) r.marks (λ m k. all_intro (kinds_element kinds) m.list (λ e i. eq→eqb e.kinds (kinds e.yard) (f.list m k e i))))

-- the bits of the same yards are the same byte
pub bits-same : (kinds : ℕ → ℕ) (ys zs : List ℕ) (byte : ℕ) → Same ys zs
    → BitsOf (λ y. Mem y ys) (λ y k. kinds y ≡ k) byte → BitsOf (λ y. Mem y zs) (λ y k. kinds y ≡ k) byte
bits-same kinds ys zs byte s b = record {
  some = λ j h. let w = b.some j h in (w.0, w.1, s.to w.0 w.2, w.3, w.4);
  every = λ j y k m e h. b.every j y k (s.from y m) e h;
}

pub together-same : (kinds : ℕ → ℕ) (ys zs : List ℕ) → Same ys zs → together kinds ys ≡ together kinds zs
together-same kinds ys zs s =
    one_byte (λ y. Mem y zs) (λ y k. kinds y ≡ k) (together kinds ys) (together kinds zs)
    (bits-same kinds ys zs (together kinds ys) s (together-bits kinds ys)) (together-bits kinds zs)

pub kinds-same : (kinds : ℕ → ℕ) (ys zs : List ℕ) (r : Region) → Same ys zs → RegionKinds kinds ys r → RegionKinds kinds zs r
kinds-same kinds ys zs r s f = record { byte = f.byte ∙ together-same kinds ys zs s; list = f.list }

-- ---- the regions, one after the other

module _ (kinds : ℕ → ℕ) (rs : List Region) where
  from-test : (n i : ℕ) → T (kinds_from kinds rs n i) → (j : ℕ) → i ≤ j → j < i + n → T (kinds_region kinds (yards_below rs j) (region_at rs j))
  unfolding kinds_from
  from-test zero i t j h k = absurd (omega arith)
  from-test (suc n) i t j h k = go (ℕ_discrete i j) (λ x. from-test n (suc i) (and_right (kinds_region kinds (yards_below rs i) (region_at rs i)) _ t) j x (omega
      arith))
    where
      go : Dec (i ≡ j) → (suc i ≤ j → T (kinds_region kinds (yards_below rs j) (region_at rs j))) → T (kinds_region kinds (yards_below rs j) (region_at rs j))
      go (yes e) rec = rw (← e) (and_left (kinds_region kinds (yards_below rs i) (region_at rs i)) _ t)
      go (no e) rec = rec (omega arith)

  to-test : (n i : ℕ) → ((j : ℕ) → i ≤ j → j < i + n → T (kinds_region kinds (yards_below rs j) (region_at rs j))) → T (kinds_from kinds rs n i)
  unfolding kinds_from
  to-test zero i f = tt
  to-test (suc n) i f = and_both (kinds_region kinds (yards_below rs i) (region_at rs i)) _ (f i (omega arith) (omega arith)) (to-test n (suc i) (λ j h k. f j (omega
      arith) (omega arith)))

-- ---- an accepted tree

module _ (b : List ℕ) (kinds : ℕ → ℕ) where
  abbrev t : Tree
  t = decode b

  abbrev rs : List Region
  rs = (decode b).regions

  -- true kinds, region by region
  each : TrueKinds kinds t → (r : ℕ) → r < length rs → RegionKinds kinds (yards_below rs r) (region_at rs r)
  each n r h = record {
    byte = one_byte (λ y. Mem y (yards_below rs r)) (λ y k. kinds y ≡ k) (region_at rs r).kinds (together kinds (yards_below rs r)) (n.regions r h)
        (together-bits kinds (yards_below rs r));
    list = n.lists r h;
  }

  bytes : ((r : ℕ) → r < length rs → RegionKinds kinds (yards_below rs r) (region_at rs r)) → TrueKinds kinds t
  bytes f = record {
    lists = λ r h. (f r h).list;
    regions = λ r h. rw (f r h).byte (together-bits kinds (yards_below rs r));
  }

  pub test-bytes : kinds_tree kinds t ≡ true → TrueKinds kinds t
  unfolding kinds_tree
  test-bytes e = bytes (λ r h. test-kinds kinds (yards_below rs r) (region_at rs r) (from-test kinds rs (length rs) 0 (true_T e) r (omega arith) (omega arith)))

  pub bytes-test : TrueKinds kinds t → kinds_tree kinds t ≡ true
  unfolding kinds_tree
  bytes-test n = T_true (kinds_from kinds rs (length rs) 0) (to-test kinds rs (length rs) 0 (λ j x y. kinds-test kinds (yards_below rs j) (region_at rs j) (each n j (omega arith))))

  -- beside a list of the tree's yards
  module _ (ok : tree_refusal b ≡ 0) (ys : List ℕ) (same : Same (tree_yards t) ys) where
    abbrev ranged : ℕ → List ℕ
    ranged r = within (region_at rs r).first (region_at rs r).after ys

    pub beside-bytes : kinds_beside kinds ys t ≡ true → TrueKinds kinds t
    unfolding kinds_beside kinds_beside_region
    beside-bytes e = bytes (λ r h. kinds-same kinds (ranged r) (yards_below rs r) (region_at rs r)
        (same_swap (yards_below rs r) (ranged r) (range_same b ok ys same r h))
        (test-kinds kinds (ranged r) (region_at rs r) (all-mem (kinds_beside_region kinds ys) rs (true_T e) (region_at rs r) (at_mem rs r h))))

    pub bytes-beside : TrueKinds kinds t → kinds_beside kinds ys t ≡ true
    unfolding kinds_beside kinds_beside_region
    bytes-beside n = T_true (all (kinds_beside_region kinds ys) rs) (all_intro (kinds_beside_region kinds ys) rs (λ r k. go r (region_mem rs r k)))
      where
        go : (r : Region) → (x : (j : ℕ) × (j < length rs) × (r ≡ region_at rs j)) → T (kinds_beside_region kinds ys r)
        go r x = rw x.2 (kinds-test kinds (ranged x.0) (region_at rs x.0)
            (kinds-same kinds (yards_below rs x.0) (ranged x.0) (region_at rs x.0) (range_same b ok ys same x.0 x.1) (each n x.0 x.1)))
