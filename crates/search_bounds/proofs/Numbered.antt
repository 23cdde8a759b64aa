-- The record of a region by its number, whose place the array has. Assumes nothing.
use mathlib.Core.Path.{◌≡◌, ◌∙◌}
use mathlib.Core.List.{List}
use Prim.Native.Nat.{ℕ, ◌<◌}
use native.Mathlib.Omega.{arith}
use lib.ListN.{length, get_or}
use Rattle.tree_layout.specs.Values.{region_at}
use Rattle.tree_layout.specs.Decode.{region_count, decode}
use Rattle.tree_layout.specs.code.Marks.{marks_at, RecordAt}
use Rattle.tree_layout.proofs.RegionRecords.{layout-marks, layout_record}
use Rattle.tree.specs.Arrays.{Laid}

module _ (b places : List ℕ) (laid : Laid b places) (i : ℕ) (h : i < length places) (at : ℕ) (e : at ≡ get_or places i 0) where
  below : i < region_count b
  below = omega (arith, laid.count)

  pub marks_of : marks_at b at ≡ (region_at (decode b).regions i).marks
  marks_of = layout-marks b laid.layout i below at (e ∙ laid.held i h)

  pub record_of : RecordAt b at
  record_of = layout_record b laid.layout i below at (e ∙ laid.held i h)
