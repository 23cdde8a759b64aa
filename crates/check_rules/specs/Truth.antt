-- Test 9, over a distance d(u, v) and the yards' kinds: "a stored distance, least or greatest isn't the true one", "a
-- false kind byte in a tree fails the check by 9". Assumes nothing: these are definitions.
use Rattle.std.specs.Prelude.{Bool, true, false, ◌&&◌, List, [], ◌∷◌, ℕ, zero, suc, min, max, length, ltb, leb, eqb}
use Rattle.book.specs.Choose.{choose}
use Rattle.kinds.specs.Kinds.{together}
use Rattle.tree_layout.specs.Values.{Element, Mark, Region, Tree, region_at}
use Rattle.tree_layout.specs.Refusal.{all}
use Rattle.tree.specs.Yards.{yards_below}

-- the least of x and of a number for each yard of a list
unfoldable pub least_distance_from : (ℕ → ℕ) → ℕ → List ℕ → ℕ
least_distance_from f x [] = x
least_distance_from f x (y ∷ ys) = least_distance_from f (min x (f y)) ys

-- the least of a number for each yard of a list
unfoldable pub least : (ℕ → ℕ) → List ℕ → ℕ
least f [] = 0
least f (y ∷ ys) = least_distance_from f (f y) ys

-- the greatest of x and of a number for each yard of a list
unfoldable pub greatest_from : (ℕ → ℕ) → ℕ → List ℕ → ℕ
greatest_from f x [] = x
greatest_from f x (y ∷ ys) = greatest_from f (max x (f y)) ys

-- the greatest of a number for each yard of a list
unfoldable pub greatest : (ℕ → ℕ) → List ℕ → ℕ
greatest f [] = 0
greatest f (y ∷ ys) = greatest_from f (f y) ys

-- a pair's distance is the true one from the landmark's junction to its yard
unfoldable pub true_element : (ℕ → ℕ → ℕ) → ℕ → Element → Bool
true_element d place e = eqb e.distance (d place e.yard)

-- a leaf's landmark: every distance of its list is true
unfoldable pub true_list : (ℕ → ℕ → ℕ) → Mark → Bool
true_list d m = all (true_element d m.place) m.list

-- an inner region's landmark: its least and greatest are those of the true distances to the region's yards
unfoldable pub true_span : (ℕ → ℕ → ℕ) → List ℕ → Mark → Bool
true_span d ys m = eqb m.least (least (d m.place) ys) && eqb m.greatest (greatest (d m.place) ys)

-- a region's landmarks, with the region's yards
unfoldable pub true_region : (ℕ → ℕ → ℕ) → List ℕ → Region → Bool
true_region d ys r = choose (eqb r.children 0) (all (true_list d) r.marks) (all (true_span d ys) r.marks)

-- n regions from number i on, each with the yards below it
unfoldable pub true_from : (ℕ → ℕ → ℕ) → List Region → ℕ → ℕ → Bool
true_from d rs zero i = true
true_from d rs (suc n) i = true_region d (yards_below rs i) (region_at rs i) && true_from d rs n (suc i)

-- every number of a tree is true
unfoldable pub true_tree : (ℕ → ℕ → ℕ) → Tree → Bool
true_tree d t = true_from d t.regions (length t.regions) 0

-- ---- kinds: `kinds` gives each yard's byte

-- an element's byte is its yard's
unfoldable pub kinds_element : (ℕ → ℕ) → Element → Bool
kinds_element kinds e = eqb e.kinds (kinds e.yard)

-- a landmark: every byte of its list
unfoldable pub kinds_list : (ℕ → ℕ) → Mark → Bool
kinds_list kinds m = all (kinds_element kinds) m.list

-- a region, with its yards: "a bit is set exactly if some yard in that region has it"; and its lists
unfoldable pub kinds_region : (ℕ → ℕ) → List ℕ → Region → Bool
kinds_region kinds ys r = eqb r.kinds (together kinds ys) && all (kinds_list kinds) r.marks

-- n regions from number i on, each with the yards below it
unfoldable pub kinds_from : (ℕ → ℕ) → List Region → ℕ → ℕ → Bool
kinds_from kinds rs zero i = true
kinds_from kinds rs (suc n) i = kinds_region kinds (yards_below rs i) (region_at rs i) && kinds_from kinds rs n (suc i)

-- every kind byte of a tree is true
unfoldable pub kinds_tree : (ℕ → ℕ) → Tree → Bool
kinds_tree kinds t = kinds_from kinds t.regions (length t.regions) 0

-- ---- the same, with a region's yards taken from a list of all yards

-- the yards of a list from junction low up to, not including, high
unfoldable pub within : ℕ → ℕ → List ℕ → List ℕ
within low high [] = []
within low high (y ∷ ys) = let rest = within low high ys in choose (leb low y && ltb y high) (y ∷ rest) rest

-- a region, with its yards those of the list in its range
unfoldable pub true_beside_region : (ℕ → ℕ → ℕ) → List ℕ → Region → Bool
true_beside_region d ys r = true_region d (within r.first r.after ys) r

-- every number of a tree is true, beside a list of its yards
unfoldable pub true_beside : (ℕ → ℕ → ℕ) → List ℕ → Tree → Bool
true_beside d ys t = all (true_beside_region d ys) t.regions

-- the same of kinds
unfoldable pub kinds_beside_region : (ℕ → ℕ) → List ℕ → Region → Bool
kinds_beside_region kinds ys r = kinds_region kinds (within r.first r.after ys) r

unfoldable pub kinds_beside : (ℕ → ℕ) → List ℕ → Tree → Bool
kinds_beside kinds ys t = all (kinds_beside_region kinds ys) t.regions
