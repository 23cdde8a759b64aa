-- The test of kinds holds of a tree with the yard book's yards exactly if each kind byte is the yard book's, and each region's has the bits of its yards.
-- Assumes nothing.
use mathlib.Core.Path.{◌≡◌, sym, ap, ◌∙◌}
use mathlib.Core.Logic.{◌↔◌}
use mathlib.Core.Bool.{true}
use mathlib.Core.List.Memᴰ.{not-nil}
use mathlib.Core.List.{List, [], Memᴰ as Mem}
use Prim.Native.Nat.{ℕ, ◌<◌}
use native.Mathlib.Decide.{ℕ_discrete}
use native.Mathlib.Omega.{arith}
use lib.ListN.{length, get_or}
use Rattle.book.specs.Open.{version}
use Rattle.book.proofs.Lists.{get_d_mem}
use Rattle.yard.specs.Yards.{yards_of, kind_of, HasKinds, yard_refusal}
use Rattle.yard.proofs.Tables.{has-kinds, yards_had, had_any}
use Rattle.tree_layout.specs.Values.{Element, Mark, Region, Tree, region_at}
use Rattle.tree_layout.specs.Decode.{decode}
use Rattle.tree_layout.proofs.Ends.{inner-is}
use Rattle.tree_layout.proofs.Formed.{decode-formed, at_mem}
use Rattle.tree_layout.proofs.Places.{decode-version}
use Rattle.tree_leaf.proofs.Named.{yards_of_lem}
use Rattle.tree.specs.Shape.{tree_refusal}
use Rattle.tree.specs.Yards.{yards_below, tree_yards}
use Rattle.tree.proofs.Ranges.{below-tree}
use Rattle.tree.proofs.RegionYards.{region_yards}
use Rattle.tree.proofs.Theorems.{tree-facts, accepted-whole}
use Rattle.check_rules.specs.Truth.{kinds_tree}
use Rattle.check_rules.specs.Facts.{TrueKinds, Same}
use Rattle.check_rules.proofs.Theorems.{tested}
use Rattle.check_tree.specs.Facts.{TrueBytes}

module _ (yard tree : List ℕ) (yok : yard_refusal yard ≡ 0) (tok : tree_refusal tree ≡ 0) (same : Same (tree_yards (decode tree)) (yards_of yard)) where
  abbrev t : Tree
  t = decode tree

  abbrev rs : List Region
  rs = (decode tree).regions

  -- the yard book has each yard of the tree, and its kinds
  had : (y : ℕ) → Mem y (tree_yards t) → HasKinds yard y (kind_of yard y)
  had y k = yards_had yard yok y (same.to y k)

  had_below : (r : ℕ) → r < length rs → (y k : ℕ) → Mem y (yards_below rs r) → kind_of yard y ≡ k → HasKinds yard y k
  had_below r h y k m e = rw (← e) (had y (below-tree tree tok r y h m))

  -- an inner region's landmarks have no elements
  none_inside : (r : ℕ) → r < length rs → 0 < (region_at rs r).children → (m : Mark) → Mem m (region_at rs r).marks → m.list ≡ []
  none_inside r h c m k =
      ap (λ (x : Mark). x.list) ((decode-formed tree (region_at rs r) (at_mem rs r h)).spans c m k ∙ inner-is m.place m.least m.greatest)

  -- ---- both ways

  kinds-bytes : TrueKinds (kind_of yard) t → TrueBytes yard rs
  kinds-bytes n = record {
    lists = λ r h c m k e i.
        had_below r h e.yard e.kinds (((accepted-whole tree tok).holdings.listed r h c m k e.yard).1 (yards_of_lem m.list e i)) (sym (n.lists r h m k e i));
    regions = λ r h. record {
      some = λ j b. let w = (n.regions r h).some j b in
          (w.0, w.1, (region_yards tree tok r w.0 h).1 w.2, had_below r h w.0 w.1 w.2 w.3, w.4);
      every = λ j y k v p b. (n.regions r h).every j y k ((region_yards tree tok r y h).0 v) (has-kinds yard yok y k p) b;
    };
  }

  bytes-kinds : TrueBytes yard rs → TrueKinds (kind_of yard) t
  bytes-kinds n = record {
    lists = λ r h m k e i. listed r h m k e i (ℕ_discrete (region_at rs r).children 0);
    regions = λ r h. record {
      some = λ j b. let w = (n.regions r h).some j b in
          (w.0, w.1, (region_yards tree tok r w.0 h).0 w.2, has-kinds yard yok w.0 w.1 w.3, w.4);
      every = λ j y k v p b. (n.regions r h).every j y k ((region_yards tree tok r y h).1 v) (had_below r h y k v p) b;
    };
  }
    where
      listed : (r : ℕ) → r < length rs → (m : Mark) → Mem m (region_at rs r).marks → (e : Element) → Mem e m.list → Dec ((region_at rs r).children ≡ 0)
          → e.kinds ≡ kind_of yard e.yard
      listed r h m k e i (yes c) = sym (has-kinds yard yok e.yard e.kinds (n.lists r h c m k e i))
      listed r h m k e i (no c) = absurd (not-nil (rw (none_inside r h (omega arith) m k) at i))

  pub bytes-exact : (kinds_tree (kind_of yard) (decode tree) ≡ true) ↔ TrueBytes yard (decode tree).regions
  bytes-exact = (
    (λ e. kinds-bytes (((tested tree tok).kinds (kind_of yard)).0 e)),
    (λ n. ((tested tree tok).kinds (kind_of yard)).1 (bytes-kinds n)),
  )

  -- ---- of two version 1 books: 255 throughout

  -- a region has a yard
  some_below : (r : ℕ) → r < length rs → (y : ℕ) × Mem y (yards_below rs r)
  some_below r h =
      let v = (tree-facts tree tok).layout.values (region_at rs r) (at_mem rs r h) in
      (get_or (yards_below rs r) 0 0, get_d_mem (yards_below rs r) 0 0 (omega (arith, (accepted-whole tree tok).holdings.count r h, v.some)))

  module _ (first : version yard ≡ 1) (first-tree : version tree ≡ 1) where
    any_below : (r : ℕ) → r < length rs → (y : ℕ) → Mem y (yards_below rs r) → HasKinds yard y 255
    any_below r h y m = had_below r h y 255 m (had_any yard yok y (kind_of yard y) (had y (below-tree tree tok r y h m)) first)

    pub version_1_bytes : TrueBytes yard (decode tree).regions
    version_1_bytes = record {
      lists = λ r h c m k e i. rw ((decode-formed tree (region_at rs r) (at_mem rs r h)).any-listed (decode-version tree ∙ first-tree) m k e i)
          (any_below r h e.yard (((accepted-whole tree tok).holdings.listed r h c m k e.yard).1 (yards_of_lem m.list e i)));
      regions = λ r h. let b = (decode-formed tree (region_at rs r) (at_mem rs r h)).any (decode-version tree ∙ first-tree) in record {
        some = λ j t. let w = some_below r h in (w.0, 255, (region_yards tree tok r w.0 h).1 w.1, any_below r h w.0 w.1, rw b at t);
        every = λ j y k v p t. rw (b, ← had_any yard yok y k p first) t;
      };
    }
