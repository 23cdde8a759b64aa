-- Tests 1 to 5 of a tree book, "Turned back, in this order". Assumes nothing: these are definitions.
use Rattle.std.specs.Prelude.{Bool, true, ◌&&◌, ◌||◌, List, [], ◌∷◌, ℕ, zero, suc, ◌+◌, length, ltb, leb, eqb}
use Rattle.book.specs.Choose.{choose, refuse, first_of}
use Rattle.book.specs.Open.{version, open_refusal}
use Rattle.tree_layout.specs.Values.{Element, Mark, Region, Tree}
use Rattle.tree_layout.specs.Sizes.{latest_tree, header_size, fields_size}
use Rattle.tree_layout.specs.Decode.{size_at, decode, junction_count, region_count, tree_yard_count, landmark_count}

-- low ≤ x ≤ high
unfoldable pub between : ℕ → ℕ → ℕ → Bool
between low high x = leb low x && leb x high

-- a test of every member of a list
unfoldable pub all : {A : Type 0} → (A → Bool) → List A → Bool
all f [] = true
all f (x ∷ xs) = f x && all f xs

-- ---- test 4

-- "A record is incomplete, or bytes follow the last one.": of n records from a place on
unfoldable pub records_ok : List ℕ → ℕ → ℕ → ℕ → Bool
records_ok b m zero at = eqb at (length b)
records_ok b m (suc n) at = leb (at + fields_size (version b)) (length b) && (leb (at + size_at b m at) (length b)
    && records_ok b m n (at + size_at b m at))

-- ---- test 5

-- "Stored distances are at most 67,042,305, which is 1,023 × 65,535."; "A kind byte of 0 in a tree is refused by 5."
unfoldable pub element_ok : Element → Bool
element_ok e = leb e.distance 67042305 && leb 1 e.kinds

-- the order of a list, "by distance and then yard": e comes before g
unfoldable pub comes : Element → Element → Bool
comes e g = ltb e.distance g.distance || (eqb e.distance g.distance && ltb e.yard g.yard)

-- "rising strictly by distance and then yard": of the elements after e
unfoldable pub rises_from : Element → List Element → Bool
rises_from e [] = true
rises_from e (g ∷ gs) = comes e g && rises_from g gs

unfoldable pub list_rises : List Element → Bool
list_rises [] = true
list_rises (e ∷ es) = rises_from e es

-- a leaf's list: its values are in their ranges, and it rises
unfoldable pub list_ok : List Element → Bool
list_ok es = all element_ok es && list_rises es

-- "Landmarks lie in their range"; a leaf's lists rise; in an inner region "least not above greatest"
unfoldable pub mark_ok : Region → Mark → Bool
mark_ok r m = leb r.first m.place && (ltb m.place r.after
    && choose (eqb r.children 0) (list_ok m.list) (leb m.least m.greatest))

-- "children u8 (0 for a leaf, else 2 to 4)"
unfoldable pub children_ok : ℕ → Bool
children_ok c = eqb c 0 || between 2 4 c

-- "A range isn't empty and ends at or below the junction count"; children; "yards u16 (at least 1)"; a kind; then the
-- landmarks
unfoldable pub region_ok : ℕ → Region → Bool
region_ok junctions r = ltb r.first r.after && (leb r.after junctions && (children_ok r.children
    && (leb 1 r.yards && (leb 1 r.kinds && all (mark_ok r) r.marks))))

-- "A record's value is outside its range or order."
unfoldable pub values_ok : Tree → Bool
values_ok t = all (region_ok t.junctions) t.regions

-- ---- the first test that fails, or 0

unfoldable pub tree_layout_refusal : List ℕ → ℕ
tree_layout_refusal b =
    -- 1, 2, and 3: "The header is incomplete": seven bytes after the version
    first_of (open_refusal b latest_tree 7)
    -- 3: "a junction, .. yard, region or landmark count is outside its limits"
    (refuse (between 1 1024 (junction_count b)) 3
    (refuse (between 1 511 (region_count b)) 3
    (refuse (between 1 256 (tree_yard_count b)) 3
    (refuse (between 1 4 (landmark_count b)) 3
    -- 4, over the whole book before 5 looks at any value
    (refuse (records_ok b (landmark_count b) (region_count b) header_size) 4
    (refuse (values_ok (decode b)) 5 0))))))
