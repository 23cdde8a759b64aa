-- A build's answer is the number of the first of its tests that fails. Assumes nothing.
use mathlib.Core.List.{List, [], ◌∷◌, ◌++◌}
use Prim.Native.Nat.{ℕ, ◌≤◌}
use Rattle.book.specs.Open.{version}
use Rattle.book.specs.Tests.{Test, test, FirstFailing}
use Rattle.book.proofs.FirstFailing.{first-end, first-le, first_join}
use Rattle.work_area.specs.Work.{work_words, work_refusal}
use Rattle.work_area.proofs.FirstFailing.{work-test}
use Rattle.road_layout.specs.Road.{junctions}
use Rattle.road.specs.Refusal.{road_refusal}
use Rattle.road.specs.Tests.{road_tests}
use Rattle.road.proofs.Theorems.{road_tests_lem}
use Rattle.yard.specs.Yards.{yard_refusal_in}
use Rattle.yard.specs.Tests.{yard_tests_in}
use Rattle.yard.proofs.FirstFailing.{yard_tests_in_lem}
use Rattle.tree_encode.specs.Encode.{tree_room}
use Rattle.build_tree.specs.Build.{range_refusal, room_refusal, build_answer}

-- the call's m and leaf limit
abbrev range_tests : (m limit : ℕ) → List Test
range_tests m limit = test 11 (1 ≤ m) ∷ test 11 (m ≤ 4) ∷ test 11 (1 ≤ limit) ∷ test 11 (limit ≤ 256) ∷ []

range_tests_lem : (m limit : ℕ) → FirstFailing (range_tests m limit) (range_refusal m limit)
unfolding range_refusal
range_tests_lem m limit =
    first-le 1 m 11 _ _ (λ _. first-le m 4 11 _ _ (λ _. first-le 1 limit 11 _ _ (λ _. first-le limit 256 11 0 _ (λ _. first-end))))

-- its areas
abbrev room_tests : (v words room : ℕ) → List Test
room_tests v words room = test 12 (work_words ≤ words) ∷ test 12 (tree_room v ≤ room) ∷ []

room_tests_lem : (v words room : ℕ) → FirstFailing (room_tests v words room) (room_refusal v words room)
unfolding room_refusal
room_tests_lem v words room =
    first_join (test 12 (work_words ≤ words) ∷ []) _ (work_refusal words) _ tt (work-test words) (λ _. first-le (tree_room v) room 12 0 _ (λ _. first-end))

pub build_tests_lem : (road yard : List ℕ) (m limit words room : ℕ)
    → FirstFailing
    (road_tests road ++ yard_tests_in yard (junctions road)
    ++ test 11 (1 ≤ m)
    ∷ test 11 (m ≤ 4)
    ∷ test 11 (1 ≤ limit)
    ∷ test 11 (limit ≤ 256)
    ∷ test 12 (work_words ≤ words)
    ∷ test 12 (tree_room (version yard) ≤ room)
    ∷ [])
    (build_answer road yard m limit words room)
unfolding build_answer
build_tests_lem road yard m limit words room =
    first_join (road_tests road) _ (road_refusal road) _ tt (road_tests_lem road) (λ _.
    first_join (yard_tests_in yard (junctions road)) _ (yard_refusal_in yard (junctions road)) _ tt (yard_tests_in_lem yard (junctions road)) (λ _.
    first_join (range_tests m limit) _ (range_refusal m limit) _ tt (range_tests_lem m limit) (λ _. room_tests_lem (version yard) words room)))
