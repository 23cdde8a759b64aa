-- The tree book's tests 1 to 5, each number with the fact that it asks for. Assumes nothing: these are definitions.
use Rattle.std.specs.Prelude.{◌≡◌, ℕ, ◌≤◌, length}
use mathlib.Core.List.{List, [], ◌∷◌, ◌++◌, Memᴰ as Mem}
use Rattle.book.specs.Tests.{Test, test, open_tests}
use Rattle.tree_layout.specs.Values.{Region}
use Rattle.tree_layout.specs.Sizes.{latest_tree}
use Rattle.tree_layout.specs.Decode.{decode, junction_count, region_count, tree_yard_count, landmark_count, place_of}
use Rattle.tree_layout.specs.Facts.{RegionValues}

abbrev pub tree_layout_tests : List ℕ → List Test
tree_layout_tests b =
    -- 1, 2, and 3: "The header is incomplete": seven bytes after the version
    open_tests b latest_tree 7
    -- 3: "a junction, .. yard, region or landmark count is outside its limits": junctions 1 to 1,024, regions 1 to 511,
    -- yards 1 to 256, landmarks 1 to 4
    ++ test 3 ((1 ≤ junction_count b) × (junction_count b ≤ 1024))
    ∷ test 3 ((1 ≤ region_count b) × (region_count b ≤ 511))
    ∷ test 3 ((1 ≤ tree_yard_count b) × (tree_yard_count b ≤ 256))
    ∷ test 3 ((1 ≤ landmark_count b) × (landmark_count b ≤ 4))
    -- 4: "A record is incomplete, or bytes follow the last one.": the records, one after the other, take up the book to
    -- its end
    ∷ test 4 (place_of b (region_count b) ≡ length b)
    -- 5: "A record's value is outside its range or order."
    ∷ test 5 ((r : Region) → Mem r (decode b).regions → RegionValues (junction_count b) r)
    ∷ []
