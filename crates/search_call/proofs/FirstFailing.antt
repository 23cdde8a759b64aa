-- A search's refusal is the number of the first of its tests that fails. Assumes nothing.
use mathlib.Core.Path.{◌≡◌}
use mathlib.Core.List.{List, [], ◌∷◌, ◌++◌}
use Prim.Native.Nat.{ℕ, ◌*◌, ◌≤◌}
use Rattle.book.specs.Tests.{Test, test, FirstFailing}
use Rattle.book.proofs.FirstFailing.{first-end, first-le, first_eq, first_join}
use Rattle.work_area.specs.Work.{work_words, work_refusal}
use Rattle.work_area.proofs.FirstFailing.{work-test}
use Rattle.road_layout.specs.Road.{junctions}
use Rattle.road.specs.Refusal.{road_refusal}
use Rattle.road.specs.Tests.{road_tests}
use Rattle.road.proofs.Theorems.{road_tests_lem}
use Rattle.tree_layout.specs.Decode.{junction_count}
use Rattle.tree.specs.Shape.{tree_refusal}
use Rattle.tree.specs.Tests.{tree_tests}
use Rattle.tree.proofs.FirstFailing.{tree_tests_lem}
use Rattle.query.specs.Query.{query_refusal}
use Rattle.query.specs.Tests.{query_tests}
use Rattle.query.proofs.FirstFailing.{query_tests_lem}
use Rattle.search_call.specs.Call.{Want, most_yards, tree_refusal_in, areas_refusal, search_refusal}

-- the tree book's tests beside a road book with so many junctions
abbrev tree_tests_in : List ℕ → ℕ → List Test
tree_tests_in tree n = tree_tests tree ++ test 8 (junction_count tree ≡ n) ∷ []

tree_tests_in_lem : (tree : List ℕ) (n : ℕ) → FirstFailing (tree_tests_in tree n) (tree_refusal_in tree n)
unfolding tree_refusal_in
tree_tests_in_lem tree n =
    first_join (tree_tests tree) _ (tree_refusal tree) _ tt (tree_tests_lem tree) (λ _. first_eq (junction_count tree) n 8 0 _ (λ _. first-end))

-- the areas'
abbrev area_tests : (k work results : ℕ) → List Test
area_tests k work results = test 12 (work_words ≤ work) ∷ test 12 (2 * k ≤ results) ∷ []

area_tests_lem : (k work results : ℕ) → FirstFailing (area_tests k work results) (areas_refusal k work results)
unfolding areas_refusal
area_tests_lem k work results =
    first_join (test 12 (work_words ≤ work) ∷ []) _ (work_refusal work) _ tt (work-test work) (λ _. first-le (2 * k) results 12 0 _ (λ _. first-end))

pub search_tests_lem : (road tree query : List ℕ) (want : Want) (work results : ℕ)
    → FirstFailing
    (road_tests road ++ tree_tests tree
    ++ test 8 (junction_count tree ≡ junctions road)
    ∷ query_tests query (junctions road)
    ++ test 13 (1 ≤ want.kinds)
    ∷ test 12 (work_words ≤ work)
    ∷ test 12 (2 * most_yards tree query want ≤ results)
    ∷ [])
    (search_refusal road tree query want work results)
unfolding search_refusal
search_tests_lem road tree query want work results =
    first_join (road_tests road) _ (road_refusal road) _ tt (road_tests_lem road) (λ _.
    first_join (tree_tests_in tree (junctions road)) _ (tree_refusal_in tree (junctions road)) _ tt (tree_tests_in_lem tree (junctions road)) (λ _.
    first_join (query_tests query (junctions road)) _ (query_refusal query (junctions road)) _ tt (query_tests_lem query (junctions road)) (λ _.
    first-le 1 want.kinds 13 _ _ (λ _. area_tests_lem (most_yards tree query want) work results))))
