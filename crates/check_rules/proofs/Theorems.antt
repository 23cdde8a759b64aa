-- Test 9 holds of an accepted tree exactly if its numbers are true, and its kinds. Assumes nothing.
use mathlib.Core.Path.{◌≡◌}
use mathlib.Core.Logic.{◌⊎◌, inl, inr}
use mathlib.Core.Bool.{true, not, ◌&&◌}
use mathlib.Core.List.{List, Memᴰ as Mem}
use Prim.Native.Nat.{ℕ, zero, suc, ◌+◌, ◌≤◌, ◌<◌}
use native.Mathlib.Decide.{ℕ_discrete}
use native.Mathlib.Omega.{arith}
use lib.ListN.{length}
use lib.Dec.{T, eqb, eqb→eq}
use Rattle.book.proofs.Choosing.{choose_yes, choose_no, T-split, T_true, true_T, and_left, and_right, and_both}
use Rattle.book.proofs.Lists.{eq→eqb, ne→neqb, neqb→ne}
use Rattle.tree_layout.specs.Values.{Element, Mark, Region, Tree, region_at}
use Rattle.tree_layout.specs.Decode.{decode}
use Rattle.tree_layout.specs.Refusal.{all}
use Rattle.tree_layout.specs.Facts.{RegionValues}
use Rattle.tree_layout.proofs.Tests.{all-mem, all_intro}
use Rattle.tree_layout.proofs.Formed.{decode-formed, at_mem}
use Rattle.tree_layout.proofs.Places.{decode-junctions}
use Rattle.tree_layout.proofs.Rising.{leaf-encloses, region_mem}
use Rattle.tree.specs.Shape.{tree_refusal}
use Rattle.tree.specs.Yards.{yards_below, tree_yards}
use Rattle.tree.specs.Theorems.{Whole}
use Rattle.tree_leaf.proofs.Named.{yards-from}
use Rattle.tree.proofs.Theorems.{tree-facts, accepted-whole}
use Rattle.check_rules.specs.Truth.{least, greatest, true_element, true_list, true_span, true_region, true_from, true_tree, within, true_beside_region}
use Rattle.check_rules.specs.Truth.{true_beside}
use Rattle.check_rules.specs.Facts.{IsLeast, IsGreatest, TrueNumbers, Same, Tested}
use Rattle.check_rules.proofs.Extremes.{least-is, greatest-is, one-least, one-greatest, least-same, greatest-same, same_swap, some_same}
use Rattle.check_rules.proofs.InRange.{range_same}
use Rattle.check_rules.proofs.KindBytes.{test-bytes, bytes-test, beside-bytes, bytes-beside}

-- ---- a region, with a list of its yards

-- what the test of a region says
pub record RegionTrue (d : ℕ → ℕ → ℕ) (ys : List ℕ) (r : Region) : Type 0 where
  pub list : r.children ≡ 0 → (m : Mark) → Mem m r.marks → (e : Element) → Mem e m.list → e.distance ≡ d m.place e.yard
  pub low : 0 < r.children → (m : Mark) → Mem m r.marks → IsLeast (d m.place) ys m.least
  pub high : 0 < r.children → (m : Mark) → Mem m r.marks → IsGreatest (d m.place) ys m.greatest

module _ (d : ℕ → ℕ → ℕ) (ys : List ℕ) (some : 0 < length ys) (r : Region) where
  leaf-test : r.children ≡ 0 → true_region d ys r ≡ all (true_list d) r.marks
  unfolding true_region
  leaf-test c = choose_yes (eqb r.children 0) _ _ (eq→eqb r.children 0 c)

  inner-test : 0 < r.children → true_region d ys r ≡ all (true_span d ys) r.marks
  unfolding true_region
  inner-test c = choose_no (eqb r.children 0) _ _ (ne→neqb r.children 0 (omega arith))

  pub test_region : T (true_region d ys r) → RegionTrue d ys r
  unfolding true_list true_element true_span
  test_region t = record {
    list = λ c m k e i. eqb→eq e.distance (d m.place e.yard) (all-mem (true_element d m.place) m.list (all-mem (true_list d) r.marks (rw
        (leaf-test c) at t) m k) e i);
    low = λ c m k. rw (eqb→eq m.least (least (d m.place) ys) (and_left (eqb m.least (least (d m.place) ys)) _ (span c m k))) (least-is (d m.place) ys some);
    high = λ c m k. rw (eqb→eq m.greatest (greatest (d m.place) ys) (and_right (eqb m.least (least (d m.place) ys)) _ (span c m k))) (greatest-is
        (d m.place) ys some);
  }
    where
      span : 0 < r.children → (m : Mark) → Mem m r.marks → T (eqb m.least (least (d m.place) ys) && eqb m.greatest (greatest (d m.place) ys))
      span c m k = all-mem (true_span d ys) r.marks (rw (inner-test c) at t) m k

  pub region_test : RegionTrue d ys r → T (true_region d ys r)
  unfolding true_list true_element true_span
  region_test f = go (T-split (eqb r.children 0))
    where
      go : T (eqb r.children 0) ⊎ T (not (eqb r.children 0)) → T (true_region d ys r)
      go (inl t) =
          let c = eqb→eq r.children 0 t in
          rw (leaf-test c) (all_intro (true_list d) r.marks (λ m k. all_intro (true_element d m.place) m.list (λ e i. eq→eqb e.distance (d m.place
          e.yard) (f.list c m k e i))))
      go (inr t) =
          let c : 0 < r.children = omega (arith, neqb→ne r.children 0 t) in
          rw (inner-test c) (all_intro (true_span d ys) r.marks (λ m k.
          and_both (eqb m.least (least (d m.place) ys)) _
          (eq→eqb m.least (least (d m.place) ys) (one-least (d m.place) ys m.least (least (d m.place) ys) (f.low c m k) (least-is (d m.place) ys some)))
          (eq→eqb m.greatest (greatest (d m.place) ys) (one-greatest (d m.place) ys m.greatest (greatest (d m.place) ys) (f.high c m k)
          (greatest-is (d m.place) ys some)))))

-- another list of the same yards serves as well
pub region_same : (d : ℕ → ℕ → ℕ) (ys zs : List ℕ) (r : Region) → Same ys zs → RegionTrue d ys r → RegionTrue d zs r
region_same d ys zs r s f = record {
  list = f.list;
  low = λ c m k. least-same (d m.place) ys zs m.least s (f.low c m k);
  high = λ c m k. greatest-same (d m.place) ys zs m.greatest s (f.high c m k);
}

-- ---- the regions, one after the other

module _ (d : ℕ → ℕ → ℕ) (rs : List Region) where
  from-test : (n i : ℕ) → T (true_from d rs n i) → (j : ℕ) → i ≤ j → j < i + n → T (true_region d (yards_below rs j) (region_at rs j))
  unfolding true_from
  from-test zero i t j h k = absurd (omega arith)
  from-test (suc n) i t j h k = go (ℕ_discrete i j) (λ x. from-test n (suc i) (and_right (true_region d (yards_below rs i) (region_at rs i)) _ t) j x (omega
      arith))
    where
      go : Dec (i ≡ j) → (suc i ≤ j → T (true_region d (yards_below rs j) (region_at rs j))) → T (true_region d (yards_below rs j) (region_at rs j))
      go (yes e) rec = rw (← e) (and_left (true_region d (yards_below rs i) (region_at rs i)) _ t)
      go (no e) rec = rec (omega arith)

  to-test : (n i : ℕ) → ((j : ℕ) → i ≤ j → j < i + n → T (true_region d (yards_below rs j) (region_at rs j))) → T (true_from d rs n i)
  unfolding true_from
  to-test zero i f = tt
  to-test (suc n) i f = and_both (true_region d (yards_below rs i) (region_at rs i)) _ (f i (omega arith) (omega arith)) (to-test n (suc i) (λ j h k. f j (omega
      arith) (omega arith)))

-- ---- an accepted tree

module _ (b : List ℕ) (ok : tree_refusal b ≡ 0) where
  abbrev t : Tree
  t = decode b

  abbrev rs : List Region
  rs = (decode b).regions

  whole : Whole t
  whole = accepted-whole b ok

  values-at : (r : ℕ) → r < length rs → RegionValues t.junctions (region_at rs r)
  values-at r h = rw (decode-junctions b) ((tree-facts b ok).layout.values (region_at rs r) (at_mem rs r h))

  some_below : (r : ℕ) → r < length rs → 0 < length (yards_below rs r)
  some_below r h = omega (arith, whole.holdings.count r h, (values-at r h).some)

  module _ (d : ℕ → ℕ → ℕ) where
    -- true numbers, region by region
    each : TrueNumbers d t → (r : ℕ) → r < length rs → RegionTrue d (yards_below rs r) (region_at rs r)
    each n r h = record { list = n.lists r h; low = n.leasts r h; high = n.greatests r h }

    numbers : ((r : ℕ) → r < length rs → RegionTrue d (yards_below rs r) (region_at rs r)) → TrueNumbers d t
    numbers f = record { lists = λ r h. (f r h).list; leasts = λ r h. (f r h).low; greatests = λ r h. (f r h).high }

    test-numbers : true_tree d t ≡ true → TrueNumbers d t
    unfolding true_tree
    test-numbers e = numbers (λ r h. test_region d (yards_below rs r) (some_below r h) (region_at rs r) (from-test d rs (length rs) 0 (true_T e) r (omega arith)
        (omega arith)))

    numbers-test : TrueNumbers d t → true_tree d t ≡ true
    unfolding true_tree
    numbers-test n = T_true (true_from d rs (length rs) 0) (to-test d rs (length rs) 0 (λ j x y. region_test d (yards_below rs j) (some_below j (omega arith))
        (region_at rs j) (each n j (omega arith))))

    -- beside a list of the tree's yards
    module _ (ys : List ℕ) (same : Same (tree_yards t) ys) where
      some-range : (r : ℕ) → r < length rs → 0 < length (within (region_at rs r).first (region_at rs r).after ys)
      some-range r h = some_same (yards_below rs r) (within (region_at rs r).first (region_at rs r).after ys) (range_same b ok ys same r h) (some_below r h)

      beside-numbers : true_beside d ys t ≡ true → TrueNumbers d t
      unfolding true_beside true_beside_region
      beside-numbers e = numbers (λ r h. region_same d (within (region_at rs r).first (region_at rs r).after ys) (yards_below rs r) (region_at rs r) (same_swap
          (yards_below rs r) (within (region_at rs r).first (region_at rs r).after ys) (range_same b ok ys same r h))
          (test_region d (within (region_at rs r).first (region_at rs r).after ys) (some-range r h) (region_at rs r) (all-mem (true_beside_region d ys) rs (true_T
          e) (region_at rs r) (at_mem rs r h))))

      numbers-beside : TrueNumbers d t → true_beside d ys t ≡ true
      unfolding true_beside true_beside_region
      numbers-beside n = T_true (all (true_beside_region d ys) rs) (all_intro (true_beside_region d ys) rs (λ r k. go r (region_mem rs r k)))
        where
          go : (r : Region) → (x : (j : ℕ) × (j < length rs) × (r ≡ region_at rs j)) → T (true_beside_region d ys r)
          go r x = rw x.2 (region_test d (within (region_at rs x.0).first (region_at rs x.0).after ys) (some-range x.0 x.1) (region_at rs x.0)
              (region_same d (yards_below rs x.0) (within (region_at rs x.0).first (region_at rs x.0).after ys) (region_at rs x.0) (range_same b ok ys same x.0
              x.1) (each n x.0 x.1)))

    -- each landmark's least and greatest enclose the distances to the yards below
    encloses-all : TrueNumbers d t → (r : ℕ) → r < length rs → (m : Mark) → Mem m (region_at rs r).marks → (y : ℕ) → Mem y (yards_below rs r)
        → (m.least ≤ d m.place y) × (d m.place y ≤ m.greatest)
    encloses-all n r h m k y i = go (ℕ_discrete (region_at rs r).children 0)
      where
        go : Dec ((region_at rs r).children ≡ 0) → (m.least ≤ d m.place y) × (d m.place y ≤ m.greatest)
        go (yes c) =
            let x = yards-from m.list y ((whole.holdings.listed r h c m k y).0 i) in
            let e = leaf-encloses m ((decode-formed b (region_at rs r) (at_mem rs r h)).lists c m k).0 ((values-at r h).rising c m k) x.0 x.1 in
            let q : x.0.distance ≡ d m.place y = rw x.2 at (n.lists r h c m k x.0 x.1) in
            (omega (arith, e.0), omega (arith, e.1))
        go (no c) = let p : 0 < (region_at rs r).children = omega arith in ((n.leasts r h p m k).low y i, (n.greatests r h p m k).high y i)

-- what is proved of an accepted tree
pub tested : (b : List ℕ) → tree_refusal b ≡ 0 → Tested (decode b)
tested b ok = record {
  exact = λ d. (test-numbers b ok d, numbers-test b ok d);
  beside = λ d ys s. (beside-numbers b ok d ys s, numbers-beside b ok d ys s);
  kinds = λ kinds. (test-bytes b kinds, bytes-test b kinds);
  kinds-beside = λ kinds ys s. (beside-bytes b kinds ok ys s, bytes-beside b kinds ok ys s);
  encloses = λ d. encloses-all b ok d;
}
