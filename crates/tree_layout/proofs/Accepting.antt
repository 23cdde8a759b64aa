-- Tests 1 to 5 accept a book exactly if it has the tree book's layout. Assumes nothing.
use mathlib.Core.Path.{◌≡◌, ◌∙◌}
use mathlib.Core.Logic.{◌↔◌}
use mathlib.Core.List.{List}
use Prim.Native.Nat.{ℕ}
use native.Mathlib.Omega.{arith}
use Rattle.book.specs.Open.{open_refusal}
use Rattle.book.proofs.Choosing.{passes, passed, first-none, first-later}
use Rattle.book.proofs.Opening.{opens, open_zero}
use Rattle.tree_layout.specs.Decode.{place_of, junction_count, region_count, tree_yard_count, landmark_count, decode}
use Rattle.tree_layout.specs.Refusal.{between, records_ok, values_ok, tree_layout_refusal}
use Rattle.tree_layout.specs.Facts.{TreeLayout}
use Rattle.tree_layout.proofs.Tests.{between_both, both_between, all-values, values-all}
use Rattle.tree_layout.proofs.Places.{records_filled, filled_records}

pub layout-facts : (b : List ℕ) → tree_layout_refusal b ≡ 0 → TreeLayout b
unfolding tree_layout_refusal place_of decode
layout-facts b e =
    let p1 = first-none (open_refusal b 2 7) _ e in
    let p2 = passed (between 1 1024 (junction_count b)) 3 _ p1.1 (omega arith) in
    let p3 = passed (between 1 511 (region_count b)) 3 _ p2.1 (omega arith) in
    let p4 = passed (between 1 256 (tree_yard_count b)) 3 _ p3.1 (omega arith) in
    let p5 = passed (between 1 4 (landmark_count b)) 3 _ p4.1 (omega arith) in
    let p6 = passed (records_ok b (landmark_count b) (region_count b) 12) 4 _ p5.1 (omega arith) in
    let p7 = passed (values_ok (decode b)) 5 0 p6.1 (omega arith) in
    record {
      opens = opens b 2 7 p1.0;
      junctions = between_both 1 1024 (junction_count b) p2.0;
      regions = between_both 1 511 (region_count b) p3.0;
      yards = between_both 1 256 (tree_yard_count b) p4.0;
      landmarks = between_both 1 4 (landmark_count b) p5.0;
      filled = records_filled b (landmark_count b) (region_count b) 12 p6.0;
      values = all-values (decode b) p7.0;
    }

pub facts-layout : (b : List ℕ) → TreeLayout b → tree_layout_refusal b ≡ 0
unfolding tree_layout_refusal place_of decode
facts-layout b l =
    first-later (open_refusal b 2 7) _ (open_zero b 2 7 l.opens)
    ∙ (passes (between 1 1024 (junction_count b)) 3 _ (both_between 1 1024 (junction_count b) l.junctions)
    ∙ (passes (between 1 511 (region_count b)) 3 _ (both_between 1 511 (region_count b) l.regions)
    ∙ (passes (between 1 256 (tree_yard_count b)) 3 _ (both_between 1 256 (tree_yard_count b) l.yards)
    ∙ (passes (between 1 4 (landmark_count b)) 3 _ (both_between 1 4 (landmark_count b) l.landmarks)
    ∙ (passes (records_ok b (landmark_count b) (region_count b) 12) 4 _ (filled_records b (landmark_count b) (region_count b) 12 l.filled)
    ∙ passes (values_ok (decode b)) 5 0 (values-all (decode b) l.values))))))

-- tests 1 to 5 accept a book if and only if the facts of "Tree book" hold of it
pub layout_iff : (b : List ℕ) → (tree_layout_refusal b ≡ 0) ↔ TreeLayout b
layout_iff b = (layout-facts b, facts-layout b)
