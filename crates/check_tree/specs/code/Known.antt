-- Whether a list of yards has those of a tree's leaves, as it is found. Assumes nothing: these are definitions.
use Rattle.std.specs.Prelude.{Bool, true, List, ℕ, eqb}
use Rattle.book.specs.Choose.{choose}
use Rattle.tree_layout.specs.Values.{Element, Region, Tree}
use Rattle.tree_layout.specs.Refusal.{all}
use Rattle.tree_leaf.specs.Leaf.{first_list}
use Rattle.check_tree.specs.Check.{has}

-- a pair's yard
unfoldable pub known_element : List ℕ → Element → Bool
known_element ys e = has ys e.yard

-- every pair's
unfoldable pub known_list : List ℕ → List Element → Bool
known_list ys es = all (known_element ys) es

-- a leaf's, which its first list names
unfoldable pub known_region : List ℕ → Region → Bool
known_region ys r = choose (eqb r.children 0) (known_list ys (first_list r.marks)) true

-- every leaf's
unfoldable pub known_tree : List ℕ → Tree → Bool
known_tree ys t = all (known_region ys) t.regions
