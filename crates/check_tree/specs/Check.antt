-- A check's answer: the first test that fails, "Turned back, in this order". Assumes nothing: these are definitions.
use Rattle.std.specs.Prelude.{Bool, false, ◌&&◌, ◌||◌, List, [], ◌∷◌, ℕ, eqb}
use Rattle.book.specs.Choose.{refuse, first_of}
use Rattle.work_area.specs.Work.{work_refusal}
use Rattle.road_layout.specs.Road.{junctions}
use Rattle.road.specs.Dijkstra.{dist}
use Rattle.road.specs.Refusal.{road_refusal}
use Rattle.yard.specs.Yards.{yards_of, kind_of, yard_refusal_in}
use Rattle.tree_layout.specs.Decode.{junction_count, decode}
use Rattle.tree_layout.specs.Refusal.{all}
use Rattle.tree.specs.Shape.{tree_refusal}
use Rattle.tree.specs.Yards.{tree_yards}
use Rattle.check_rules.specs.Truth.{true_tree, kinds_tree}

-- a list has yard y
unfoldable pub has : List ℕ → ℕ → Bool
has [] y = false
has (z ∷ zs) y = eqb z y || has zs y

-- two lists have the same yards
unfoldable pub same_set : List ℕ → List ℕ → Bool
same_set ys zs = all (has zs) ys && all (has ys) zs

-- a tree book's tests beside a road book and a yard book
unfoldable pub tree_refusal_beside : (road yard tree : List ℕ) → ℕ
tree_refusal_beside road yard tree =
    -- 1 to 5, and 7
    first_of (tree_refusal tree)
    -- 8: "Junction counts or yards disagree between books"
    (refuse (eqb (junction_count tree) (junctions road)) 8
    (refuse (same_set (tree_yards (decode tree)) (yards_of yard)) 8
    -- 9: "In a check only: a stored distance, least or greatest isn't the true one.", nor a kind byte
    (refuse (true_tree (dist road) (decode tree)) 9
    (refuse (kinds_tree (kind_of yard) (decode tree)) 9 0))))

-- "Books are tested in the order road, yard, tree, query, each through its own tests, a test between books going with
-- the later one; then the call's .. areas."
unfoldable pub check_answer : (road yard tree : List ℕ) → (words : ℕ) → ℕ
check_answer road yard tree words =
    -- 1 to 6
    first_of (road_refusal road)
    -- 1 to 5, and 8: "a yard isn't a junction of the road book"
    (first_of (yard_refusal_in yard (junctions road))
    (first_of (tree_refusal_beside road yard tree)
    -- 12: "work below 16,384 words"
    (work_refusal words)))
