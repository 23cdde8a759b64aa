-- Demand 2, of check: a tree passes if and only if its leaves hold the yards, its numbers are least totals of walks, and its kind bytes are true. Assumes nothing.
use mathlib.Core.Path.{◌≡◌, ◌∙◌}
use mathlib.Core.Logic.{◌↔◌}
use mathlib.Core.Bool.{true}
use mathlib.Core.List.{List, Memᴰ as Mem}
use Prim.Native.Nat.{ℕ, ◌<◌}
use native.Mathlib.Omega.{arith}
use lib.ListN.{length}
use lib.Dec.{T, eqb}
use Rattle.book.specs.Open.{version}
use Rattle.book.proofs.Choosing.{passed, passes, first-none, first-later, T_true, true_T}
use Rattle.book.proofs.Lists.{eq→eqb}
use Rattle.work_area.proofs.Zeroing.{work-enough}
use Rattle.road_layout.specs.Road.{junctions}
use Rattle.adjacency.specs.Arcs.{net}
use Rattle.road.specs.Walk.{Least}
use Rattle.road.specs.Dijkstra.{dist}
use Rattle.road.specs.Facts.{Metric}
use Rattle.road.proofs.Walks.{least_unique}
use Rattle.road.proofs.Theorems.{passing, metric}
use Rattle.yard.specs.Yards.{yards_of, kind_of}
use Rattle.yard.proofs.YardLayout.{passes-alone}
use Rattle.tree_layout.specs.Values.{Element, Mark, Region, Tree, region_at}
use Rattle.tree_layout.specs.Decode.{junction_count, decode}
use Rattle.tree_layout.proofs.Places.{decode-junctions, decode-landmarks}
use Rattle.tree_layout.proofs.Formed.{decode-formed, at_mem}
use Rattle.tree_leaf.proofs.Named.{yards_of_lem, first_mark_lem}
use Rattle.tree.specs.Yards.{yards_below, tree_yards}
use Rattle.tree.specs.Theorems.{LeafOf, Whole}
use Rattle.tree.proofs.Ranges.{below-tree}
use Rattle.tree.specs.RegionYards.{YardOf}
use Rattle.tree.proofs.RegionYards.{region_yards}
use Rattle.tree.proofs.Theorems.{tree-facts, accepted-whole}
use Rattle.check_rules.specs.Truth.{true_tree, kinds_tree}
use Rattle.check_rules.specs.Facts.{IsLeast, IsGreatest, TrueNumbers, Same}
use Rattle.check_rules.proofs.Theorems.{tested}
use Rattle.check_tree.specs.Check.{same_set, tree_refusal_beside, check_answer}
use Rattle.check_tree.specs.Facts.{LeafHolds, HoldsEach, LeastTotal, GreatestTotal, TrueTotals, TrueBytes, SoundBeside, CheckExact}
use Rattle.check_tree.proofs.Sets.{set_same, same_set_lem}
use Rattle.check_tree.proofs.KindBytes.{bytes-exact, version_1_bytes}

module _ (road yard tree : List ℕ) (words : ℕ) (laid : SoundBeside road yard tree words) where
  abbrev t : Tree
  t = decode tree

  abbrev rs : List Region
  rs = (decode tree).regions

  abbrev ys : List ℕ
  ys = yards_of yard

  whole : Whole t
  whole = accepted-whole tree laid.shape

  distances : Metric road
  distances = metric road (passing road laid.roads)

  -- ---- the yards

  -- what each list of a leaf names is what is below it
  holds-below : (j y : ℕ) → LeafHolds rs j y → Mem y (yards_below rs j)
  holds-below j y l =
      let few = (tree-facts tree laid.shape).layout.landmarks.0 in
      let (m, q, e) = first_mark_lem (region_at rs j).marks
      (omega (arith, (decode-formed tree (region_at rs j) (at_mem rs j l.number)).count, decode-landmarks tree, few)) in
      (whole.holdings.listed j l.number l.leaf m q y).1 (l.named m q)

  below_holds : (j y : ℕ) → LeafOf rs y j → LeafHolds rs j y
  below_holds j y l = record { number = l.number; leaf = l.leaf; named = λ m q. (whole.holdings.listed j l.number l.leaf m q y).0 l.holds }

  same-holds : Same (tree_yards t) ys → HoldsEach rs ys
  same-holds s = record {
    each = λ y k. let x = whole.leaf_of_lem y (s.from y k) in (x.0, below_holds x.0 y x.1);
    one-leaf = λ y j k i a b.
        whole.one-leaf y j k (record { number = a.number; leaf = a.leaf; holds = holds-below j y a })
        (record { number = b.number; leaf = b.leaf; holds = holds-below k y b });
    once = whole.holdings.listed-once;
    no_other = λ j h c m q y n. s.to y (below-tree tree laid.shape j y h ((whole.holdings.listed j h c m q y).1 n));
  }

  holds_same : HoldsEach rs ys → Same (tree_yards t) ys
  holds_same e = record {
    to = λ y k. let x = whole.leaf_of_lem y k in in_leaf x.0 y (below_holds x.0 y x.1);
    from = λ y k. let x = e.each y k in below-tree tree laid.shape x.0 y x.1.number (holds-below x.0 y x.1);
  }
    where
      in_leaf : (j y : ℕ) → LeafHolds rs j y → Mem y ys
      in_leaf j y l =
          let few = (tree-facts tree laid.shape).layout.landmarks.0 in
          let (m, q, f) = first_mark_lem (region_at rs j).marks
          (omega (arith, (decode-formed tree (region_at rs j) (at_mem rs j l.number)).count, decode-landmarks tree, few)) in
          e.no_other j l.number l.leaf m q y (l.named m q)

  -- ---- the numbers

  -- a landmark is a junction, and so is a yard below a region
  place_in : (r : ℕ) → r < length rs → (m : Mark) → Mem m (region_at rs r).marks → m.place < junctions road
  place_in r h m k =
      let v = (tree-facts tree laid.shape).layout.values (region_at rs r) (at_mem rs r h) in
      omega (arith, (v.placed m k).1, v.within, laid.counts)

  yard_in : (r y : ℕ) → r < length rs → Mem y (yards_below rs r) → y < junctions road
  yard_in r y h k = omega (arith, whole.yard-below y (below-tree tree laid.shape r y h k), decode-junctions tree, laid.counts)

  -- a region's yards are those below it
  here : (r y : ℕ) → r < length rs → YardOf rs r y ↔ Mem y (yards_below rs r)
  here = region_yards tree laid.shape

  -- the distance from a landmark to a yard below its region
  total : (r : ℕ) → r < length rs → (m : Mark) → Mem m (region_at rs r).marks → (y : ℕ) → Mem y (yards_below rs r)
      → Least (net road) m.place y (dist road m.place y)
  total r h m k y i = distances.least m.place y (place_in r h m k) (yard_in r y h i)

  listed_below : (r : ℕ) → r < length rs → (region_at rs r).children ≡ 0 → (m : Mark) → Mem m (region_at rs r).marks → (e : Element) → Mem e m.list
      → Mem e.yard (yards_below rs r)
  listed_below r h c m k e i = (whole.holdings.listed r h c m k e.yard).1 (yards_of_lem m.list e i)

  numbers-totals : TrueNumbers (dist road) t → TrueTotals (net road) rs
  numbers-totals n = record {
    lists = λ r h c m k e i. rw (n.lists r h c m k e i) (total r h m k e.yard (listed_below r h c m k e i));
    leasts = λ r h c m k. low r h m k (n.leasts r h c m k);
    greatests = λ r h c m k. high r h m k (n.greatests r h c m k);
  }
    where
      low : (r : ℕ) → r < length rs → (m : Mark) → Mem m (region_at rs r).marks → IsLeast (dist road m.place) (yards_below rs r) m.least
          → LeastTotal (net road) m.place (YardOf rs r) m.least
      low r h m k l = record {
        reached = (l.reached.0, (here r l.reached.0 h).1 l.reached.1, rw (← l.reached.2) (total r h m k l.reached.0 l.reached.1));
        low = λ y s i p. let j = (here r y h).0 i in omega (arith, l.low y j, least_unique p (total r h m k y j));
      }

      high : (r : ℕ) → r < length rs → (m : Mark) → Mem m (region_at rs r).marks → IsGreatest (dist road m.place) (yards_below rs r) m.greatest
          → GreatestTotal (net road) m.place (YardOf rs r) m.greatest
      high r h m k l = record {
        reached = (l.reached.0, (here r l.reached.0 h).1 l.reached.1, rw (← l.reached.2) (total r h m k l.reached.0 l.reached.1));
        high = λ y s i p. let j = (here r y h).0 i in omega (arith, l.high y j, least_unique p (total r h m k y j));
      }

  totals-numbers : TrueTotals (net road) rs → TrueNumbers (dist road) t
  totals-numbers n = record {
    lists = λ r h c m k e i. least_unique (n.lists r h c m k e i) (total r h m k e.yard (listed_below r h c m k e i));
    leasts = λ r h c m k. low r h m k (n.leasts r h c m k);
    greatests = λ r h c m k. high r h m k (n.greatests r h c m k);
  }
    where
      low : (r : ℕ) → r < length rs → (m : Mark) → Mem m (region_at rs r).marks → LeastTotal (net road) m.place (YardOf rs r) m.least
          → IsLeast (dist road m.place) (yards_below rs r) m.least
      low r h m k l = record {
        reached = let j = (here r l.reached.0 h).0 l.reached.1 in (l.reached.0, j, least_unique (total r h m k l.reached.0 j) l.reached.2);
        low = λ y i. l.low y (dist road m.place y) ((here r y h).1 i) (total r h m k y i);
      }

      high : (r : ℕ) → r < length rs → (m : Mark) → Mem m (region_at rs r).marks → GreatestTotal (net road) m.place (YardOf rs r) m.greatest
          → IsGreatest (dist road m.place) (yards_below rs r) m.greatest
      high r h m k l = record {
        reached = let j = (here r l.reached.0 h).0 l.reached.1 in (l.reached.0, j, least_unique (total r h m k l.reached.0 j) l.reached.2);
        high = λ y i. l.high y (dist road m.place y) ((here r y h).1 i) (total r h m k y i);
      }

  -- ---- the answer

  -- what is left of the tests for such books: the yards, and test 9
  passes-there : check_answer road yard tree words ≡ 0 → Same (tree_yards t) ys × (true_tree (dist road) t ≡ true) × (kinds_tree (kind_of yard) t ≡ true)
  unfolding check_answer tree_refusal_beside
  passes-there e =
      let a = (first-none _ _ (first-none _ _ (first-none _ _ e).1).1).0 in
      let b = passed _ _ _ (first-none _ _ a).1 (omega arith) in
      let c = passed _ _ _ b.1 (omega arith) in
      let d = passed _ _ _ c.1 (omega arith) in
      let f = passed _ _ _ d.1 (omega arith) in
      (set_same (tree_yards t) ys c.0, T_true _ d.0, T_true _ f.0)

  there-passes : Same (tree_yards t) ys → true_tree (dist road) t ≡ true → kinds_tree (kind_of yard) t ≡ true → check_answer road yard tree words ≡ 0
  unfolding check_answer tree_refusal_beside
  there-passes s e f =
      first-later _ _ laid.roads
      ∙ first-later _ _ laid.yards
      ∙ first-later _ _
      (first-later _ _ laid.shape
      ∙ passes (eqb (junction_count tree) (junctions road)) _ _ (eq→eqb (junction_count tree) (junctions road) laid.counts)
      ∙ passes (same_set (tree_yards t) ys) _ _ (same_set_lem (tree_yards t) ys s)
      ∙ passes (true_tree (dist road) t) _ _ (true_T e)
      ∙ passes (kinds_tree (kind_of yard) t) _ _ (true_T f))
      ∙ work-enough words laid.full

  -- the test of yards, and test 9
  pub yards-exact : T (same_set (tree_yards (decode tree)) (yards_of yard)) ↔ HoldsEach (decode tree).regions (yards_of yard)
  yards-exact = ((λ s. same-holds (set_same (tree_yards t) ys s)), (λ h. same_set_lem (tree_yards t) ys (holds_same h)))

  pub totals-exact : (true_tree (dist road) (decode tree) ≡ true) ↔ TrueTotals (net road) (decode tree).regions
  totals-exact = (
    (λ e. numbers-totals (((tested tree laid.shape).exact (dist road)).0 e)),
    (λ n. ((tested tree laid.shape).exact (dist road)).1 (totals-numbers n)),
  )

  -- of kinds, where the yards are the yard book's
  pub kinds-exact : HoldsEach (decode tree).regions (yards_of yard) → (kinds_tree (kind_of yard) (decode tree) ≡ true) ↔ TrueBytes yard (decode tree).regions
  kinds-exact h = bytes-exact yard tree (passes-alone yard (junctions road) laid.yards) laid.shape (holds_same h)

  pub version_1_kinds : HoldsEach (decode tree).regions (yards_of yard) → version yard ≡ 1 → version tree ≡ 1 → TrueBytes yard (decode tree).regions
  version_1_kinds h = version_1_bytes yard tree (passes-alone yard (junctions road) laid.yards) laid.shape (holds_same h)

  exact : (check_answer road yard tree words ≡ 0) ↔ (HoldsEach rs ys × TrueTotals (net road) rs × TrueBytes yard rs)
  exact = (
    (λ e. let p = passes-there e in let h = same-holds p.0 in (h, totals-exact.0 p.1, (kinds-exact h).0 p.2)),
    (λ p. there-passes (holds_same p.0) (totals-exact.1 p.1) ((kinds-exact p.0).1 p.2)),
  )

-- demand 2, of check
pub check_exact : CheckExact
check_exact = exact

-- a tree with the book's yards, true numbers and true kinds passes
pub true_passes : (road yard tree : List ℕ) (words : ℕ) → SoundBeside road yard tree words → Same (tree_yards (decode tree)) (yards_of yard)
    → true_tree (dist road) (decode tree) ≡ true
    → kinds_tree (kind_of yard) (decode tree) ≡ true
    → check_answer road yard tree words ≡ 0
true_passes road yard tree words laid s e f = there-passes road yard tree words laid s e f
