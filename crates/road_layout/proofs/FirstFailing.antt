-- The refusal of a road book's layout is the number of the first of tests 1 to 5 that fails. Assumes nothing.
use mathlib.Core.List.{List}
use Prim.Native.Nat.{ℕ, ◌+◌, ◌*◌}
use lib.ListN.{length}
use Rattle.book.specs.Open.{open_refusal}
use Rattle.book.specs.Tests.{FirstFailing, open_tests}
use Rattle.book.proofs.FirstFailing.{first-end, first-test, first-le, first_eq, first_join, open_tests_lem}
use Rattle.road_layout.specs.Road.{junctions, road_count}
use Rattle.road_layout.specs.Layout.{roads_ok, road_layout_refusal}
use Rattle.road_layout.specs.Tests.{road_layout_tests}
use Rattle.road_layout.proofs.Layouts.{roads-values, values-roads}

pub road-layout_tests : (b : List ℕ) → FirstFailing (road_layout_tests b) (road_layout_refusal b)
unfolding road_layout_refusal
road-layout_tests b =
    first_join (open_tests b 1 4) _ (open_refusal b 1 4) _ tt (open_tests_lem b 1 4) (λ _.
    first-le 1 (junctions b) 3 _ _ (λ _.
    first-le (junctions b) 1024 3 _ _ (λ _.
    first-le (road_count b) 4096 3 _ _ (λ _.
    first_eq (length b) (9 + 6 * road_count b) 4 _ _ (λ _.
    first-test (roads_ok b (junctions b) (road_count b) 0 0 0) 5 0 _ (roads-values b) (values-roads b) (λ _. first-end))))))
