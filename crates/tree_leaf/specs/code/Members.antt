-- The yards that a list names, as a set by junction. Assumes nothing: these are definitions.
use Rattle.std.specs.Prelude.{Bool, true, false, ◌&&◌, List, [], ◌∷◌, ℕ, get_or, set, replicate}
use Rattle.tree_layout.specs.Values.{Element}
use Rattle.tree_layout.specs.Refusal.{all}
use Rattle.tree_leaf.specs.Leaf.{once, in_range}

-- the set of the yards of a list and no other
unfoldable pub members_of : List Element → List Bool
members_of [] = replicate 1024 false
members_of (e ∷ es) = set (members_of es) e.yard true

-- a set has a pair's yard
unfoldable pub is_member : List Bool → Element → Bool
is_member members e = get_or members e.yard false

-- "each yard once, inside its range", of one list
unfoldable pub fits : ℕ → ℕ → List Element → Bool
fits low high es = once es && all (in_range low high) es
