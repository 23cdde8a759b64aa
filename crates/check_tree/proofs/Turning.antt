-- The tests that turn a check back, in their order, with the yards, numbers and kinds by `HoldsEach`, `TrueTotals` and `TrueBytes`. Assumes nothing.
use mathlib.Core.Path.{◌≡◌}
use mathlib.Core.List.{List, [], ◌∷◌, ◌++◌}
use Prim.Native.Nat.{ℕ, ◌≤◌}
use native.Mathlib.Omega.{arith}
use lib.Dec.{T, eqb→eq}
use Rattle.book.specs.Tests.{Test, test, FirstFailing}
use Rattle.book.proofs.Choosing.{passed, first-none, T_true, true_T}
use Rattle.book.proofs.FirstFailing.{first-end, first-test, first_eq, first_join}
use Rattle.work_area.specs.Work.{work_words, work_refusal}
use Rattle.work_area.proofs.Zeroing.{enough-work}
use Rattle.work_area.proofs.FirstFailing.{work-test}
use Rattle.road_layout.specs.Road.{junctions}
use Rattle.adjacency.specs.Arcs.{net}
use Rattle.road.specs.Dijkstra.{dist}
use Rattle.road.specs.Refusal.{road_refusal}
use Rattle.road.specs.Tests.{road_tests}
use Rattle.road.proofs.Theorems.{road_tests_lem}
use Rattle.yard.specs.Yards.{yards_of, kind_of, yard_refusal_in}
use Rattle.yard.specs.Tests.{yard_tests_in}
use Rattle.yard.proofs.FirstFailing.{yard_tests_in_lem}
use Rattle.tree_layout.specs.Decode.{junction_count, decode}
use Rattle.tree.specs.Shape.{tree_refusal}
use Rattle.tree.specs.Yards.{tree_yards}
use Rattle.tree.specs.Tests.{tree_tests}
use Rattle.tree.proofs.FirstFailing.{tree_tests_lem}
use Rattle.check_rules.specs.Truth.{true_tree, kinds_tree}
use Rattle.check_tree.specs.Check.{same_set, tree_refusal_beside, check_answer}
use Rattle.check_tree.specs.Facts.{HoldsEach, TrueTotals, TrueBytes, SoundBeside}
use Rattle.check_tree.proofs.Theorems.{yards-exact, totals-exact, kinds-exact}

module _ (road yard tree : List ℕ) where
  -- the tree book's tests beside the other two
  abbrev beside_tests : List Test
  beside_tests =
      tree_tests tree
      ++ test 8 (junction_count tree ≡ junctions road)
      ∷ test 8 (HoldsEach (decode tree).regions (yards_of yard))
      ∷ test 9 (TrueTotals (net road) (decode tree).regions)
      ∷ test 9 (TrueBytes yard (decode tree).regions)
      ∷ []

  beside_tests_lem : road_refusal road ≡ 0 → yard_refusal_in yard (junctions road) ≡ 0 → FirstFailing beside_tests (tree_refusal_beside road yard tree)
  unfolding tree_refusal_beside
  beside_tests_lem r y =
      first_join (tree_tests tree) _ (tree_refusal tree) _ tt (tree_tests_lem tree) (λ s.
      first_eq (junction_count tree) (junctions road) 8 _ _ (λ c.
      let laid : SoundBeside road yard tree work_words = record { roads = r; yards = y; shape = s; counts = c; full = omega arith } in
      let yards = yards-exact road yard tree work_words laid in
      let totals = totals-exact road yard tree work_words laid in
      first-test (same_set (tree_yards (decode tree)) (yards_of yard)) 8 _ _ yards.0 yards.1 (λ h.
      let kinds = kinds-exact road yard tree work_words laid h in
      first-test (true_tree (dist road) (decode tree)) 9 _ _ (λ t. totals.0 (T_true _ t)) (λ n. true_T (totals.1 n)) (λ _.
      first-test (kinds_tree (kind_of yard) (decode tree)) 9 0 _ (λ t. kinds.0 (T_true _ t)) (λ n. true_T (kinds.1 n)) (λ _. first-end)))))

  -- a check's answer is the number of the first of its tests that fails
  pub check_tests_lem : (words : ℕ)
      → FirstFailing
      (road_tests road ++ yard_tests_in yard (junctions road) ++ tree_tests tree
      ++ test 8 (junction_count tree ≡ junctions road)
      ∷ test 8 (HoldsEach (decode tree).regions (yards_of yard))
      ∷ test 9 (TrueTotals (net road) (decode tree).regions)
      ∷ test 9 (TrueBytes yard (decode tree).regions)
      ∷ test 12 (work_words ≤ words)
      ∷ [])
      (check_answer road yard tree words)
  unfolding check_answer
  check_tests_lem words =
      first_join (road_tests road) _ (road_refusal road) _ tt (road_tests_lem road) (λ r.
      first_join (yard_tests_in yard (junctions road)) _ (yard_refusal_in yard (junctions road)) _ tt (yard_tests_in_lem yard (junctions road)) (λ y.
      first_join beside_tests _ (tree_refusal_beside road yard tree) _ tt (beside_tests_lem r y) (λ _. work-test words)))

  -- a check that no test turns back
  pub none_turned : (words : ℕ) → check_answer road yard tree words ≡ 0 → SoundBeside road yard tree words
  unfolding check_answer tree_refusal_beside
  none_turned words e =
      let a = first-none _ _ e in
      let b = first-none _ _ a.1 in
      let c = first-none _ _ b.1 in
      let d = first-none _ _ c.0 in
      record { roads = a.0; yards = b.0; shape = d.0; counts = eqb→eq _ _ (passed _ _ _ d.1 (omega arith)).0; full = enough-work words c.1 }
