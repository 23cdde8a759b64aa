-- A region's record in a book of sound layout, and its fields. Assumes nothing.
use mathlib.Core.Path.{◌≡◌, refl, sym, ap, ◌∙◌}
use mathlib.Core.List.{List}
use Prim.Native.Nat.{ℕ, ◌+◌, ◌≤◌, ◌<◌}
use native.Mathlib.Omega.{arith}
use lib.ListN.{length, get_or}
use Rattle.book.specs.Open.{version}
use Rattle.tree_layout.specs.Sizes.{fields_size}
use Rattle.tree_layout.specs.code.Accessors.{fields_at}
use Rattle.tree_layout.specs.Values.{Region, region_at}
use Rattle.tree_layout.specs.Decode.{read_region, size_at, place_of, landmark_count, region_count, decode}
use Rattle.tree_layout.proofs.Places.{size-least, region_at_lem, record_inside, decode-length}
use Rattle.tree_layout.proofs.Formed.{at_mem}
use Rattle.tree_layout.proofs.Reading.{region_first, region_after, region_children, region_yards, region_kinds}
use Rattle.tree.specs.Arrays.{Laid, fields_of}
use Rattle.tree_layout.specs.declared.Fields.{Fields}

module _ (b places : List ℕ) (laid : Laid b places) where
  -- the regions are as many as their places
  pub laid-length : length (decode b).regions ≡ length places
  laid-length = decode-length b ∙ sym laid.count

  -- there are at most 511
  pub laid-few : length places ≤ 511
  laid-few = omega (arith, laid.count, laid.layout.regions.1)

  -- the header is whole
  pub laid-header : 12 ≤ length b
  laid-header = omega (arith, laid.layout.opens.headed)

  module _ (i : ℕ) (h : i < length places) where
    counted : i < region_count b
    counted = omega (arith, laid.count)

    -- region i is what stands at its place
    pub laid_region : region_at (decode b).regions i ≡ read_region b (landmark_count b) (place_of b i)
    laid_region = region_at_lem b i counted

    -- its record lies in the book
    pub laid-inside : place_of b i + size_at b (landmark_count b) (place_of b i) ≤ length b
    laid-inside = record_inside b laid.layout.filled i counted

    -- and so do its fields
    pub laid-room : get_or places i 0 + fields_size (version b) ≤ length b
    laid-room = omega (arith, laid.held i h, laid-inside, size-least b (landmark_count b) (place_of b i))

    pub laid-children : (region_at (decode b).regions i).children ≡ (fields_at b (place_of b i)).children
    laid-children = ap (λ (r : Region). r.children) laid_region ∙ region_children b (landmark_count b) (place_of b i)

    -- its range ends at or below 1,024
    pub laid_end : (fields_at b (place_of b i)).after ≤ 1024
    laid_end =
        let v = laid.layout.values (region_at (decode b).regions i) (at_mem (decode b).regions i (omega (arith, laid-length))) in
        let e : (region_at (decode b).regions i).after ≡ (fields_at b (place_of b i)).after = ap (λ (r : Region). r.after) laid_region ∙ region_after b
        (landmark_count b) (place_of b i) in
        omega (arith, v.within, laid.layout.junctions.1)

    -- what is read at its place are its fields
    pub laid_fields : (at : ℕ) (f : Fields) → at ≡ get_or places i 0 → f ≡ fields_at b at → f ≡ fields_of b i
    unfolding fields_of
    laid_fields at f e q =
        let z : at ≡ place_of b i = e ∙ laid.held i h in
        q ∙ rw (
          laid_region,
          region_first b (landmark_count b) (place_of b i),
          region_after b (landmark_count b) (place_of b i),
          region_children b (landmark_count b) (place_of b i),
          region_yards b (landmark_count b) (place_of b i),
          region_kinds b (landmark_count b) (place_of b i),
          z,
        ) refl
