-- The rows of the root's landmarks are a search's landmark table. Assumes nothing.
use mathlib.Core.Path.{◌≡◌, sym, ap, ◌∙◌}
use mathlib.Core.List.{List, ◌++◌}
use Prim.Native.Nat.{ℕ, ◌*◌, ◌≤◌, ◌<◌}
use native.Mathlib.Omega.{arith}
use lib.ListN.{length, get_or, take, drop, length-append}
use lib.Seq.{length-take-le, take_at}
use Rattle.road.specs.Dijkstra.{dist}
use Rattle.road.specs.code.Rows.{cell, Within, Rowed}
use Rattle.tree_layout.specs.Values.{Mark}
use Rattle.tree_layout.specs.Decode.{junction_count, landmark_count}
use Rattle.tree_layout.specs.Facts.{TreeLayout}
use Rattle.tree_layout.proofs.Places.{place-first, decode-junctions}
use Rattle.tree_layout.specs.Reading.{header_of}
use Rattle.tree_layout.specs.declared.Header.{Header}
use Rattle.search_rules.specs.Rule.{Asking}
use Rattle.search_rules.specs.Instance.{Instance, marks}
use Rattle.search_rules.specs.Books.{search_of}
use Rattle.search_rules.specs.Bounds.{table_at}
use Rattle.tree_layout.specs.Values.{no_mark}
use Rattle.search_rules.proofs.Equations.{table_at_lem, search_of_lem}
use Rattle.tree_layout.specs.code.Marks.{marks_at, RecordAt}
use Rattle.search_bounds.specs.code.Rows.{table_words}
use Rattle.search_bounds.specs.code.Tables.{root_places, LandmarkTable}
use Rattle.tree_layout.proofs.RecordFields.{marks-count}
use Rattle.search_bounds.proofs.Bounding.{count_read}
use Rattle.tree_layout.proofs.RegionRecords.{layout-marks, layout_record, layout-placed}
use Rattle.search_bounds.proofs.Searching.{marks-book}
use Rattle.search_bounds.proofs.Places.{root-length, root-at, root-each}

module _ (tree : List ℕ) (layout : TreeLayout tree) where
  pub header-room : 12 ≤ length tree
  header-room = omega (arith, layout.opens.headed)

  -- the root's record
  pub root_record : RecordAt tree 12
  root_record = layout_record tree layout 0 layout.regions.0 12 (sym (place-first tree))

  -- ---- the array of four that the root's landmarks are read into

  module _ (h : Header) (header : h ≡ header_of tree) (m : ℕ) (e : m ≡ h.landmarks) where
    root-count : m ≡ landmark_count tree
    root-count = e ∙ count_read tree h header

    pub root-few : m ≤ 4
    root-few = omega (arith, root-count, layout.landmarks.1)

    module _ (old : List ℕ) (four : length old ≡ 4) where
      pub root-part : m ≡ length (take m old)
      root-part = sym (length-take-le m old (omega (arith, root-few)))

      pub root-size : length (take m old) ≡ landmark_count tree
      root-size = sym root-part ∙ root-count

      -- as they are read
      module _ (new : List ℕ) (read : new ≡ root_places tree) where
        root_new : length new ≡ m
        root_new = ap length read ∙ root-length tree ∙ sym root-count

        taken : take m (new ++ drop m old) ≡ root_places tree
        taken = take_at new (drop m old) m root_new ∙ read

        pub root-inside : m ≤ length (new ++ drop m old)
        root-inside = omega (arith, length-append new (drop m old), root_new)

        pub root-taken : m ≡ length (take m (new ++ drop m old))
        root-taken = sym (length-take-le m (new ++ drop m old) root-inside)

        -- they are junctions of the road book
        pub taken-within : (n : ℕ) → junction_count tree ≡ n → Within n (take m (new ++ drop m old))
        taken-within n counts =
            rw taken (root-each tree n (λ k j. omega (arith, counts, layout-placed tree layout 0 layout.regions.0 12 (sym (place-first tree)) k j)))

        pub taken-room : (w : ℕ) → w ≡ table_words → 1024 * length (take m (new ++ drop m old)) ≤ w
        taken-room w f = omega (arith, root-taken, root-few)

        pub taken_rowed : (road table : List ℕ) → Rowed road (take m (new ++ drop m old)) table → Rowed road (root_places tree) table
        taken_rowed road table rowed = rw taken at rowed

-- ---- a search's landmark table

module _ (road tree : List ℕ) (layout : TreeLayout tree) (a : Asking) (crews : List ℕ) where
  abbrev i : Instance
  i = search_of road tree a crews

  root-marks : marks_at tree 12 ≡ marks i 0
  root-marks = layout-marks tree layout 0 layout.regions.0 12 (sym (place-first tree)) ∙ sym (marks-book road tree a crews 0)

  distance_is : (k : Mark) (v : ℕ) → dist road k.place v ≡ table_at i k v
  distance_is k v = ap (λ (x : Instance). x.d k.place v) (sym (search_of_lem road tree a crews)) ∙ sym (table_at_lem i k v)

  junctions_are : i.tree.junctions ≡ junction_count tree
  junctions_are = ap (λ (x : Instance). x.tree.junctions) (search_of_lem road tree a crews) ∙ decode-junctions tree

  -- "The sheet holds d from the root's landmarks r to every junction."
  pub table_filled : (table : List ℕ) → length table ≡ table_words → Rowed road (root_places tree) table → LandmarkTable i (landmark_count tree) table
  table_filled table room rowed = record {
    limits = record {
      room = room;
      some = layout.landmarks.0;
      few = layout.landmarks.1;
    };
    count = sym (marks-count tree 12) ∙ ap length root-marks;
    filled = λ r v h k. words r v h (omega (arith, junctions_are, layout.junctions.1));
  }
    where
      words : (r v : ℕ) → r < landmark_count tree → v < 1024 → cell table r v ≡ table_at i (get_or (marks i 0) r no_mark) v
      words r v h k =
          let source : dist road (get_or (root_places tree) r 0) v ≡ dist road (get_or (marks_at tree 12) r no_mark).place v = rw (root-at tree r h) in
          let filled = rowed.filled r v (omega (arith, root-length tree)) k in
          rw (← root-marks) (filled ∙ source ∙ distance_is (get_or (marks_at tree 12) r no_mark) v)
