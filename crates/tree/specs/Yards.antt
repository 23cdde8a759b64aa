-- Of a shaped tree: where subtrees end, a region's children, and the yards below it. Assumes nothing: these are
-- definitions.
use Rattle.std.specs.Prelude.{Bool, ◌&&◌, List, [], ◌∷◌, ◌++◌, ℕ, zero, suc, ◌+◌, ◌-◌, length, eqb, ltb, leb, Some, None}
use Rattle.book.specs.Choose.{choose}
use Rattle.tree_layout.specs.Values.{Element, Region, Tree, region_at}
use Rattle.tree_leaf.specs.Leaf.{yards_in, names, first_list}
use Rattle.tree.specs.Shape.{End, subtree, levels}

-- the number of the region that a descent came to, or another number if it is `None`
abbrev pub number_or : ℕ → End → ℕ
number_or other (Some r) = r.number
number_or other None = other

-- the number of the region after region i's subtree. A shaped tree has no `None` one; the count of all regions, which
-- is no region's number, stands in for it
unfoldable pub end_of : List Region → ℕ → ℕ
end_of rs i = number_or (length rs) (subtree rs levels i)

-- the numbers of n siblings, the first of number i; `f` gives the number after a subtree
unfoldable pub starts : (ℕ → ℕ) → ℕ → ℕ → List ℕ
starts f zero i = []
starts f (suc n) i = i ∷ starts f n (f i)

-- the number after n siblings' subtrees, the first of number i
unfoldable pub hops : (ℕ → ℕ) → ℕ → ℕ → ℕ
hops f zero i = i
hops f (suc n) i = hops f n (f i)

-- the numbers of region r's children
unfoldable pub children_of : List Region → ℕ → List ℕ
children_of rs r = starts (end_of rs) (region_at rs r).children (suc r)

-- the lists of several numbers, one after the other
unfoldable pub gather : (ℕ → List ℕ) → List ℕ → List ℕ
gather f [] = []
gather f (c ∷ cs) = f c ++ gather f cs

-- the regions that are reached from region i: itself, then those reached from its children, over so many levels
unfoldable pub regions_reached : List Region → ℕ → ℕ → List ℕ
regions_reached rs zero i = []
regions_reached rs (suc levels) i = i ∷ gather (regions_reached rs levels) (children_of rs i)

-- n numbers from i on: i, i + 1, ..
unfoldable pub numbers : ℕ → ℕ → List ℕ
numbers zero i = []
numbers (suc n) i = i ∷ numbers n (suc i)

-- how many of n regions from number j on have region i in their subtree; `ends` gives the number after a subtree
unfoldable pub holders : (ℕ → ℕ) → ℕ → ℕ → ℕ → ℕ
holders ends zero j i = 0
holders ends (suc n) j i = choose (ltb i (ends j)) 1 0 + holders ends n (suc j) i

-- the level of region i among the regions up to it: the root's is 1
unfoldable pub level_by : (ℕ → ℕ) → ℕ → ℕ
level_by ends i = holders ends (suc i) 0 i

unfoldable pub level_of : List Region → ℕ → ℕ
level_of rs i = level_by (end_of rs) i

-- region s is on the way from the root to region r, as r is itself: it has r in its subtree
unfoldable pub on_way : List Region → ℕ → ℕ → Bool
on_way rs s r = leb s r && ltb r (end_of rs s)

-- a leaf's yards, in its first list's order; none of an inner region
unfoldable pub own_yards : Region → List ℕ
own_yards r = choose (eqb r.children 0) (yards_in (first_list r.marks)) []

-- the yards of the leaves among n regions from number i on
unfoldable pub leaf_yards_from : List Region → ℕ → ℕ → List ℕ
leaf_yards_from rs zero i = []
leaf_yards_from rs (suc n) i = own_yards (region_at rs i) ++ leaf_yards_from rs n (suc i)

-- the yards below region i: those of the leaves of its subtree
unfoldable pub yards_below : List Region → ℕ → List ℕ
yards_below rs i = leaf_yards_from rs (end_of rs i - i) i

-- all of the tree's yards
unfoldable pub tree_yards : Tree → List ℕ
tree_yards t = leaf_yards_from t.regions (length t.regions) 0

-- ---- kinds

-- the byte of yard y in a list, or 0 if the list does not name it
unfoldable pub kinds_in : List Element → ℕ → ℕ
kinds_in [] y = 0
kinds_in (e ∷ es) y = choose (eqb e.yard y) e.kinds (kinds_in es y)

-- a leaf's first list; none of an inner region
unfoldable pub own_list : Region → List Element
own_list r = choose (eqb r.children 0) (first_list r.marks) []

-- "its byte in its leaf's first list": yard y's, of the leaves among n regions from number i on
unfoldable pub kinds_from : List Region → ℕ → ℕ → ℕ → ℕ
kinds_from rs zero i y = 0
kinds_from rs (suc n) i y =
    choose (names (own_list (region_at rs i)) y) (kinds_in (own_list (region_at rs i)) y) (kinds_from rs n (suc i) y)

-- yard y's, of the whole tree; 0 if it is no yard of it
unfoldable pub kinds_of : Tree → ℕ → ℕ
kinds_of t y = kinds_from t.regions (length t.regions) 0 y

-- ---- counts

-- the sum of a number for each of n regions from number i on
unfoldable pub sum_from : List Region → (Region → ℕ) → ℕ → ℕ → ℕ
sum_from rs f zero i = 0
sum_from rs f (suc n) i = f (region_at rs i) + sum_from rs f n (suc i)

unfoldable pub one_leaf : Region → ℕ
one_leaf r = choose (eqb r.children 0) 1 0

unfoldable pub one_inner : Region → ℕ
one_inner r = choose (eqb r.children 0) 0 1

-- how many leaves and how many inner regions there are
unfoldable pub leaves : Tree → ℕ
leaves t = sum_from t.regions one_leaf (length t.regions) 0

unfoldable pub inners : Tree → ℕ
inners t = sum_from t.regions one_inner (length t.regions) 0
