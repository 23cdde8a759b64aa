-- A build's answer, the tree that it writes, and the tree area after it. Assumes nothing: these are definitions.
use Rattle.std.specs.Prelude.{List, ℕ, length, leb, eqb, Result, Ok, Err}
use Rattle.book.specs.Choose.{choose, refuse, first_of}
use Rattle.book.specs.Open.{version}
use Rattle.book.specs.Writing.{write}
use Rattle.book.specs.declared.refusal.Refusal.{Refusal}
use Rattle.work_area.specs.Work.{work_refusal}
use Rattle.road_layout.specs.Road.{junctions}
use Rattle.road.specs.Refusal.{road_refusal}
use Rattle.yard.specs.Yards.{yards_of, yard_refusal_in}
use Rattle.tree_layout.specs.Values.{Tree}
use Rattle.tree_encode.specs.Encode.{encode, tree_room}
use Rattle.build_rules.specs.Cut.{cut_tree}
use Rattle.build_records.specs.Given.{given}

-- 11: "m or the leaf limit is outside its range": "m (1 to 4) and a leaf limit (1 to 256)"
unfoldable pub range_refusal : (m limit : ℕ) → ℕ
range_refusal m limit =
    refuse (leb 1 m) 11
    (refuse (leb m 4) 11
    (refuse (leb 1 limit) 11
    (refuse (leb limit 256) 11 0)))

-- 12: "A lent area is too short: work below 16,384 words, .. a built tree's area below 21,981 bytes.", or 23,516 in
-- version 2
unfoldable pub room_refusal : (version words room : ℕ) → ℕ
room_refusal version words room = first_of (work_refusal words) (refuse (leb (tree_room version) room) 12 0)

-- "Books are tested in the order road, yard, .., a test between books going with the later one;
-- then the call's m, leaf limit and areas."
unfoldable pub build_answer : (road yard : List ℕ) (m limit words room : ℕ) → ℕ
build_answer road yard m limit words room =
    -- 1 to 6
    first_of (road_refusal road)
    -- 1 to 5, and 8: "a yard isn't a junction of the road book"
    (first_of (yard_refusal_in yard (junctions road))
    (first_of (range_refusal m limit)
    (room_refusal (version yard) words room)))

-- the tree that is cut from a road book and a yard book
unfoldable pub built_tree : (road yard : List ℕ) (m limit : ℕ) → Tree
built_tree road yard m limit = cut_tree (given road yard m limit) (junctions road) (yards_of yard)

-- "Build returns the tree's length."; a refusal returns "every other returned field 0"
unfoldable pub built_length : (road yard : List ℕ) (m limit words room : ℕ) → ℕ
built_length road yard m limit words room =
    choose (eqb (build_answer road yard m limit words room) 0) (length (encode (built_tree road yard m limit))) 0

-- the length that the code answers, in the paper's numbers
abbrev pub answer_length : Result ℕ Refusal → ℕ
answer_length (Ok n) = n
answer_length (Err why) = 0

-- the tree area after a build: the tree's book at its start, and "Bytes after a built tree stay.";
-- a refusal "changes no lent byte or word"
unfoldable pub tree_after : (road yard : List ℕ) (m limit words : ℕ) (tree : List ℕ) → List ℕ
tree_after road yard m limit words tree =
    choose (eqb (build_answer road yard m limit words (length tree)) 0)
    (write tree 0 (encode (built_tree road yard m limit))) tree
