-- What is proved of the tree that building gives. Assumes nothing.
use mathlib.Core.Path.{◌≡◌, refl, sym, ap, ◌∙◌}
use mathlib.Core.List.{List, [], ◌++◌, append-nil, Memᴰ as Mem}
use Prim.Native.Nat.{ℕ, ◌+◌, ◌-◌, ◌≤◌, ◌<◌}
use native.Mathlib.Omega.{arith}
use lib.ListN.{length}
use lib.Dec.{T}
use Rattle.book.proofs.Lists.{mem_get_d}
use Rattle.kinds.proofs.Laws.{together-bits}
use Rattle.tree_layout.specs.Values.{Region, Tree, region_at}
use Rattle.tree_layout.specs.Decode.{decode}
use Rattle.tree_layout.specs.Facts.{RegionValues}
use Rattle.tree_layout.specs.code.Formed.{FormedTree}
use Rattle.tree.specs.Shape.{end_at, subtree, levels, shaped, tree_refusal}
use Rattle.tree.specs.Yards.{one_leaf, one_inner, yards_below, tree_yards}
use Rattle.tree.proofs.Forest.{siblings-next, siblings-ended}
use Rattle.tree.proofs.ForestLaws.{Sane, leaf-count, inner-count}
use Rattle.tree.proofs.Shaping.{found_preorder, root_forest, shape-facts}
use Rattle.tree.proofs.Descent.{shaped_by}
use Rattle.tree.proofs.Ranges.{tree-span}
use Rattle.tree.proofs.Sums.{sum-all, all-counted}
use Rattle.tree.proofs.Theorems.{sane_of}
use Rattle.tree_encode.specs.Encode.{encode, tree_room}
use Rattle.tree_encode.specs.code.Facts.{SoundTree, SmallTree}
use Rattle.tree_encode.proofs.Theorems.{written}
use Rattle.check_rules.specs.Facts.{TrueNumbers, TrueKinds, Same}
use Rattle.check_rules.proofs.KindBytes.{RegionKinds, kinds-same}
use Rattle.check_rules.proofs.Theorems.{RegionTrue, region_same, tested}
use Rattle.build_rules.specs.Cut.{Given, leaf_region, inner_region, cut, cut_tree}
use Rattle.build_rules.specs.code.Facts.{InLimits, Measures, Marks, OneTree, Built}
use Rattle.build_rules.proofs.Parts.{fours, rising-places}
use Rattle.build_rules.proofs.Cutting.{Held, CutForest, forest_length, cut_forest}
use Rattle.build_rules.proofs.Steps.{tree-regions}
use Rattle.build_rules.proofs.OneTree.{cut-exact, range-one}
use Rattle.build_rules.proofs.Regions.{Kinded, leaf_true, inner_true, leaf-kinds, inner-kinds, forest_regions, forest_small, forest_limit}
use Rattle.build_rules.proofs.Shape.{forest_siblings, forest_yards, forest_each}

five_cuts : (junctions : ℕ) → junctions ≤ 1024 → junctions ≤ fours 5
unfolding fours
five_cuts junctions h = omega arith

module _ (g : Given) (junctions : ℕ) (ys : List ℕ) (lim : InLimits g junctions ys) where
  abbrev t : Tree
  t = cut_tree g junctions ys

  abbrev rs : List Region
  rs = cut g 5 0 junctions ys

  regions_are : t.regions ≡ rs
  unfolding cut_tree
  regions_are = refl

  held : Held 0 junctions ys
  held = record {
    some = lim.yards_in_lem.0;
    in_range_lem = λ y k. let x = mem_get_d ys 0 y k in (omega arith, omega (arith, x.2, lim.below x.0 x.1));
    rising = rising-places ys lim.rising;
  }

  forest : CutForest g junctions 6 1 0 junctions ys rs
  unfolding fours
  forest =
      let e : 0 + junctions ≡ junctions = omega arith in
      rw e at (cut_forest g junctions lim.limit_in.0 5 0 junctions ys held (omega arith) (omega (arith, lim.junctions_in.1)))

  kinded : Kinded g ys
  kinded = record { some = lim.kinded; any = lim.any }

  whole : rs ≡ [] ++ (rs ++ [])
  whole = sym (append-nil rs)

  there : 1 ≤ length rs
  there = forest_length g junctions forest

  formed : FormedTree t
  unfolding cut_tree
  formed r k = (forest_regions g junctions lim.bounded forest kinded r k).0

  values : (r : Region) → Mem r t.regions → RegionValues t.junctions r
  unfolding cut_tree
  values r k = (forest_regions g junctions lim.bounded forest kinded r k).1

  sane : Sane rs
  unfolding cut_tree
  sane = sane_of t formed lim.landmarks_in.0 values

  -- a descent with six levels takes all regions, and the root has all yards
  descent : (subtree rs 6 0 ≡ end_at (length rs)) × ((region_at rs 0).yards ≡ length ys)
  descent =
      let one = forest_siblings g junctions lim.landmarks_in.0 forest rs [] [] whole 6 (omega arith) 0 junctions (omega arith) (omega arith) in
      let x = siblings-next rs (subtree rs 6) 0 0 0 junctions (length ys) (0 + length rs) one in
      let z = siblings-ended rs (subtree rs 6) x.next (region_at rs 0).after junctions (length ys - (region_at rs 0).yards) (0 + length rs) x.rest in
      let all : x.next ≡ length rs = omega (arith, z.1) in
      (x.found ∙ ap end_at all, omega (arith, z.0, x.left_ok))

  shape_ok : T (shaped t)
  unfolding cut_tree
  shape_ok = shaped_by t 6 (omega arith) descent.0 descent.1

  regions-few : length rs ≤ 511
  unfolding cut_tree
  regions-few =
      let root = root_forest t sane there shape_ok in
      omega (
        arith,
        all-counted rs (length rs) 0,
        sum-all rs one_leaf,
        sum-all rs one_inner,
        leaf-count rs sane root,
        inner-count rs sane root,
        descent.1,
        lim.yards_in_lem.1,
      )

  sound : SoundTree t
  unfolding cut_tree
  sound = record {
    limits = record { version = lim.version_in; junctions = lim.junctions_in; regions = (there, regions-few); yards = lim.yards_in_lem; landmarks = lim.landmarks_in };
    formed = formed;
    values = values;
    shape = shape-facts t sane there shape_ok;
  }

  small : ((y : ℕ) → Mem y ys → g.kinds y ≤ 255) → SmallTree t
  unfolding cut_tree
  small most = record {
    version = omega (arith, lim.version_in.1);
    junctions = omega (arith, lim.junctions_in.1);
    count = omega (arith, regions-few);
    yards = omega (arith, lim.yards_in_lem.1);
    landmarks = omega (arith, lim.landmarks_in.1);
    regions = λ r k. forest_small g junctions lim.bounded forest kinded most lim.junctions_in.1 lim.yards_in_lem.1 r k;
  }

  yards-same : Same (tree_yards t) ys
  unfolding cut_tree
  yards-same = rw (tree-span t) (rw (let e : 0 + length rs ≡ length rs = omega arith in
      e) at (forest_yards g junctions lim.landmarks_in.0 forest rs [] [] whole sane))

  -- what the regions say of their yards holds of those below them
  each : (Says : List ℕ → Region → Type 0) → ((ys zs : List ℕ) (r : Region) → Same ys zs → Says ys r → Says zs r)
      → ((a s : ℕ) (ys : List ℕ) → Says ys (leaf_region g a s ys))
      → ((a s q : ℕ) (ys : List ℕ) → 0 < q → 0 < length ys → Says ys (inner_region g a s q ys))
      → (r : ℕ) → r < length rs → Says (yards_below rs r) (region_at rs r)
  each Says o f h r k = forest_each g junctions lim.landmarks_in.0 Says o f h forest rs [] [] whole sane (omega arith) r (omega arith) (omega arith)

  region_true_lem : (r : ℕ) → r < length rs → RegionTrue g.d (yards_below rs r) (region_at rs r)
  region_true_lem = each (RegionTrue g.d) (region_same g.d) (λ a s ys. leaf_true g a s ys ys) (inner_true g)

  region_kinds : (r : ℕ) → r < length rs → RegionKinds g.kinds (yards_below rs r) (region_at rs r)
  region_kinds = each (RegionKinds g.kinds) (kinds-same g.kinds) (leaf-kinds g) (λ a s q ys x y. inner-kinds g a s q ys)

  numbers_true_lem : TrueNumbers g.d t
  unfolding cut_tree
  numbers_true_lem = record { lists = λ r h. (region_true_lem r h).list; leasts = λ r h. (region_true_lem r h).low; greatests = λ r h. (region_true_lem r h).high }

  kinds_true_lem : TrueKinds g.kinds t
  unfolding cut_tree
  kinds_true_lem = record {
    lists = λ r h. (region_kinds r h).list;
    regions = λ r h. rw (region_kinds r h).byte (together-bits g.kinds (yards_below rs r));
  }

  back : decode (encode t) ≡ t
  back = (written t).back formed

  accepted : tree_refusal (encode t) ≡ 0
  accepted = (written t).accepted sound

  short : length (encode t) ≤ tree_room g.version
  unfolding cut_tree
  short = (written t).short sound

  pub built : Built g junctions ys
  built = record {
    accepted = accepted;
    back = back;
    bytes = λ most. (written t).bytes sound (small most);
    short = short;
    yards = yards-same;
    numbers = numbers_true_lem;
    true_tree_lem = rw back at (((tested (encode t) accepted).exact g.d).1 (rw back numbers_true_lem));
    true_beside_lem = rw back at (((tested (encode t) accepted).beside g.d ys (rw back yards-same)).1 (rw back numbers_true_lem));
    bits = kinds_true_lem;
    kinds-tree = rw back at (((tested (encode t) accepted).kinds g.kinds).1 (rw back kinds_true_lem));
    few = rw regions_are regions-few;
    six = rw regions_are (found_preorder rs 5 0 (length rs) descent.0);
    leaf-limit = rw regions_are (forest_limit g forest);
  }

-- the built tree is the one that the stated cuts give, by any distance that d measures and any kinds that it has
pub one-tree : (g : Given) (D : ℕ → ℕ → ℕ → Type 0) (K : ℕ → ℕ → Type 0) (junctions : ℕ) (ys : List ℕ) → InLimits g junctions ys → Measures D g.d junctions
    → Marks K g.kinds ys → OneTree g D K junctions ys
one-tree g D K junctions ys lim known marked =
    let v = held g junctions ys lim in
    let few = five_cuts junctions lim.junctions_in.1 in
    let some = lim.limit_in.0 in
    record {
      cuts = rw (tree-regions g junctions ys) (cut-exact g D K junctions known some 5 0 junctions ys marked v (omega arith) few);
      one = λ rs c. range-one g D K junctions known some c marked v (omega arith) 5 few ∙ sym (tree-regions g junctions ys);
    }
