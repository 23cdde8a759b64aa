-- The refusal of a tree book's layout is the number of the first of tests 1 to 5 that fails. Assumes nothing.
use mathlib.Core.List.{List}
use Prim.Native.Nat.{ℕ}
use Rattle.book.specs.Open.{open_refusal}
use Rattle.book.specs.Tests.{FirstFailing, open_tests}
use Rattle.book.proofs.FirstFailing.{first-end, first-test, first_join, open_tests_lem}
use Rattle.tree_layout.specs.Decode.{place_of, junction_count, region_count, tree_yard_count, landmark_count, decode}
use Rattle.tree_layout.specs.Refusal.{between, records_ok, values_ok, tree_layout_refusal}
use Rattle.tree_layout.specs.Tests.{tree_layout_tests}
use Rattle.tree_layout.proofs.Tests.{between_both, both_between, all-values, values-all}
use Rattle.tree_layout.proofs.Places.{records_filled, filled_records}

module _ (b : List ℕ) where
  abbrev m : ℕ
  m = landmark_count b

  pub tree-layout_tests : FirstFailing (tree_layout_tests b) (tree_layout_refusal b)
  unfolding tree_layout_refusal place_of decode
  tree-layout_tests =
      first_join (open_tests b 2 7) _ (open_refusal b 2 7) _ tt (open_tests_lem b 2 7) (λ _.
      first-test (between 1 1024 (junction_count b)) 3 _ _ (between_both 1 1024 (junction_count b)) (both_between 1 1024 (junction_count b)) (λ _.
      first-test (between 1 511 (region_count b)) 3 _ _ (between_both 1 511 (region_count b)) (both_between 1 511 (region_count b)) (λ _.
      first-test (between 1 256 (tree_yard_count b)) 3 _ _ (between_both 1 256 (tree_yard_count b)) (both_between 1 256 (tree_yard_count b)) (λ _.
      first-test (between 1 4 m) 3 _ _ (between_both 1 4 m) (both_between 1 4 m) (λ _.
      first-test (records_ok b m (region_count b) 12) 4 _ _ (records_filled b m (region_count b) 12) (filled_records b m (region_count b) 12) (λ _.
      first-test (values_ok (decode b)) 5 0 _ (all-values (decode b)) (values-all (decode b)) (λ _. first-end)))))))
