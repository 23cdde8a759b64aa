-- The record of a region by its number, in a book of sound layout. Assumes nothing.
use mathlib.Core.Path.{◌≡◌, sym, ap, ◌∙◌}
use mathlib.Core.List.{List, Memᴰ as Mem}
use Prim.Native.Nat.{ℕ, ◌+◌, ◌≤◌, ◌<◌}
use native.Mathlib.Omega.{arith}
use lib.ListN.{length}
use Rattle.book.specs.Bytes.{u16_at}
use Rattle.tree_layout.specs.Values.{Mark, Region, region_at}
use Rattle.tree_layout.specs.Decode.{read_region, size_at, junction_count, region_count, landmark_count, place_of, decode}
use Rattle.tree_layout.specs.Facts.{TreeLayout}
use Rattle.tree_layout.specs.code.Marks.{marks_at, RecordAt}
use Rattle.tree_layout.proofs.Places.{region_at_lem, decode-length, record_inside}
use Rattle.tree_layout.proofs.Formed.{at_mem}
use Rattle.tree_layout.proofs.Reading.{region_yards}

module _ (b : List ℕ) (layout : TreeLayout b) (i : ℕ) (h : i < region_count b) (at : ℕ) (place : at ≡ place_of b i) where
  -- the region is what is read there
  pub layout_region : region_at (decode b).regions i ≡ read_region b (landmark_count b) at
  layout_region = rw place (region_at_lem b i h)

  pub layout_member : Mem (region_at (decode b).regions i) (decode b).regions
  layout_member = at_mem (decode b).regions i (omega (arith, decode-length b))

  -- its landmarks are those of the record
  pub layout-marks : marks_at b at ≡ (region_at (decode b).regions i).marks
  unfolding marks_at
  layout-marks = ap (λ (r : Region). r.marks) (sym layout_region)

  yards_of_lem : u16_at b (at + 5) ≡ (region_at (decode b).regions i).yards
  yards_of_lem = sym (region_yards b (landmark_count b) at) ∙ ap (λ (r : Region). r.yards) (sym layout_region)

  -- its landmarks are junctions
  pub layout-placed : (k : Mark) → Mem k (marks_at b at) → k.place < junction_count b
  layout-placed k j =
      let v = layout.values (region_at (decode b).regions i) layout_member in
      omega (arith, (v.placed k (rw layout-marks at j)).1, v.within)

  -- it lies in the book
  pub layout-whole : at + size_at b (landmark_count b) at ≤ length b
  layout-whole = rw place (record_inside b layout.filled i h)

  pub layout_record : RecordAt b at
  layout_record = record {
    header = omega (arith, layout.opens.headed);
    inside = layout-whole;
    landmarks = layout.landmarks;
    some = omega (arith, yards_of_lem, (layout.values (region_at (decode b).regions i) layout_member).some);
    placed = λ k j. omega (arith, layout-placed k j, layout.junctions.1);
  }
