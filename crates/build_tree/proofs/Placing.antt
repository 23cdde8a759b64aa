-- The regions written after the place of the header, and the header before them, are the tree's book. Assumes nothing.
use mathlib.Core.Path.{◌≡◌, refl, sym, ap, ◌∙◌}
use mathlib.Core.List.{List, ◌++◌}
use Prim.Native.Nat.{ℕ, ◌+◌, ◌-◌, ◌≤◌, ◌<◌}
use native.Mathlib.Omega.{arith}
use lib.ListN.{length}
use Rattle.book.specs.Open.{version}
use Rattle.book.specs.Writing.{write}
use Rattle.road_layout.specs.Road.{junctions}
use Rattle.adjacency.specs.Adjacency.{count_in, Adjacency}
use Rattle.yard.specs.Yards.{yard_count, yard_refusal_in}
use Rattle.tree_layout.specs.Values.{Tree}
use Rattle.tree_encode.specs.Encode.{encode_regions, encode}
use Rattle.tree_encode.specs.code.Parts.{tree_header}
use Rattle.tree_encode.proofs.Parts.{header-length, book-is}
use Rattle.build_records.specs.declared.Part.{Part}
use Rattle.build_cuts.specs.declared.Plan.{Plan}
use Rattle.build_cuts.specs.code.Writing.{WrittenRegions}
use Rattle.build_cuts.specs.code.Cutting.{regions_of, Numbered, Range, Room}
use Rattle.build_tree.specs.Build.{built_tree}
use Rattle.build_tree.specs.Facts.{AcceptedBy}
use Rattle.build_tree.proofs.Heading.{write_before}
use Rattle.build_tree.proofs.Limits.{yards-alone, few-junctions, some-junction, its_version, its_junctions, its_yards, its_landmarks, its_regions, its_length, short}
use Rattle.build_tree.proofs.Limits.{short-most, few-regions, regions_fit}

module _ (adj yard : List ℕ) (plan : Plan) (words : ℕ) (tree : List ℕ)
    (by : AcceptedBy adj yard plan.landmarks plan.limit words (length tree)) (n : ℕ) (en : n ≡ count_in adj) where
  -- a yard book beside any road book that adj is the adjacency of
  beside : (road : List ℕ) → Adjacency road adj → yard_refusal_in yard (junctions road) ≡ 0
  beside road a = rw (sym a.count ∙ by.adjacent.count) by.accepted.yards

  -- ---- what cutting all junctions asks

  pub all-few : 0 + n ≤ 1024
  all-few = omega (arith, en, by.adjacent.count, few-junctions by.book yard plan.landmarks plan.limit words (length tree) by.accepted)

  module _ (p : Part) (es : p.start.number ≡ 0) (ez : p.size ≡ n) (numbers : Numbered yard p) where
    pub all-range : Range adj yard p
    all-range = record {
      passes = yards-alone by.book yard plan.landmarks plan.limit words (length tree) by.accepted;
      inside = omega (arith, es, ez, en);
      numbers = numbers;
    }

    pub all-some : 0 < p.size
    all-some = omega (arith, ez, en, by.adjacent.count, some-junction by.book yard plan.landmarks plan.limit words (length tree) by.accepted)

    pub all_room : Room (version yard) adj (regions_of yard plan 5 p) 12 (length tree)
    all_room = record {
      book = by.book;
      adjacent = by.adjacent;
      fits = rw (es, ez, en, by.adjacent.count) (regions_fit by.book yard plan.landmarks plan.limit words (length tree) by.accepted);
    }

    -- ---- what it leaves

    module _ (mid : List ℕ) (q c : ℕ) (w : (road : List ℕ) → Adjacency road adj → WrittenRegions (version yard) tree 12 (regions_of yard plan 5 p road) mid q c) where
      module _ (road : List ℕ) (a : Adjacency road adj) where
        abbrev t : Tree
        t = built_tree road yard plan.landmarks plan.limit

        ok : yard_refusal_in yard (junctions road) ≡ 0
        ok = beside road a

        regions_are : regions_of yard plan 5 p road ≡ t.regions
        regions_are = rw (es, ez, en, a.count) (its_regions road yard plan.landmarks plan.limit ok)

        pub end_is : q ≡ length (encode (built_tree road yard plan.landmarks plan.limit))
        end_is = (w road a).end ∙ (rw regions_are refl ∙ sym (its_length road yard plan.landmarks plan.limit ok))

        count-is : c ≡ length (built_tree road yard plan.landmarks plan.limit).regions
        count-is = (w road a).number ∙ rw regions_are refl

      pub end_low : q ≤ 23516
      end_low = omega (arith, end_is by.book by.adjacent, short-most by.book yard plan.landmarks plan.limit words (length tree) by.accepted)

      end_fits : q ≤ length tree
      end_fits = omega (
        arith,
        end_is by.book by.adjacent,
        short by.book yard plan.landmarks plan.limit words (length tree) by.accepted,
        by.accepted.areas.tree,
      )

      pub end-some : 12 ≤ q
      end-some = omega (arith, (w by.book by.adjacent).end)

      pub count_low : c ≤ 511
      count_low = omega (
        arith,
        count-is by.book by.adjacent,
        few-regions by.book yard plan.landmarks plan.limit words (length tree)
            by.accepted,
      )

      pub header-room : (l : ℕ) → l ≡ length tree → 12 ≤ l
      header-room l e = omega (arith, end-some, end_fits)

      pub book-done : (out : List ℕ) (v y : ℕ) → out ≡ write mid 0 (tree_header (q - 4) v n c y plan.landmarks) → v ≡ version yard → y ≡ yard_count yard
          → (road : List ℕ) → Adjacency road adj → out ≡ write tree 0 (encode (built_tree road yard plan.landmarks plan.limit))
      book-done out v y e ev ey road a =
          let m = plan.landmarks in
          let limit = plan.limit in
          let rs = encode_regions (version yard) (built_tree road yard m limit).regions in
          let header = tree_header (q - 4) v n c y m in
          let bytes : mid ≡ write tree 12 rs = (w road a).bytes ∙ rw (regions_are road a) refl in
          let fits : 12 + length rs ≤ length tree = omega (arith, its_length road yard m limit (ok road a), end_is road a, end_fits) in
          let j : (t road a).junctions ≡ n = its_junctions road yard m limit (ok road a) ∙ sym (en ∙ a.count) in
          let z : (t road a).yards ≡ y = its_yards road yard m limit (ok road a) ∙ sym ey in
          let k : (t road a).landmarks ≡ m = its_landmarks road yard m limit (ok road a) in
          let same : encode (t road a) ≡ header ++ rs = book-is (t road a) ∙ rw (← end_is road a, ← count-is road a, its_version road yard m limit (ok road a), j, z, k, ev) refl in
          e ∙ (ap (λ (l : List ℕ). write l 0 header) bytes ∙ (write_before header rs tree 12 (header-length (q - 4) v n c y m) fits ∙ ap (write tree 0)
          (sym same)))
