-- The shape's rules for a leaf: "all of a leaf's lists name the same yards, each yard once, inside its range". Assumes
-- nothing: these are definitions.
use Rattle.std.specs.Prelude.{Bool, true, false, not, ◌&&◌, ◌||◌, List, [], ◌∷◌, ℕ, ltb, leb, eqb}
use Rattle.tree_layout.specs.Values.{Element, Mark, Region}
use Rattle.tree_layout.specs.Refusal.{all}

-- the yards that a list names, in its order
unfoldable pub yards_in : List Element → List ℕ
yards_in [] = []
yards_in (e ∷ es) = e.yard ∷ yards_in es

-- a list names yard y
unfoldable pub names : List Element → ℕ → Bool
names [] y = false
names (e ∷ es) y = eqb e.yard y || names es y

-- "each yard once"
unfoldable pub once : List Element → Bool
once [] = true
once (e ∷ es) = not (names es e.yard) && once es

-- "inside its range": from low up to, not including, high
unfoldable pub in_range : ℕ → ℕ → Element → Bool
in_range low high e = leb low e.yard && ltb e.yard high

-- every yard of a list is named by another
unfoldable pub named_by : List Element → List Element → Bool
named_by other es = all (λ e. names other e.yard) es

-- the list of the first landmark
unfoldable pub first_list : List Mark → List Element
first_list [] = []
first_list (m ∷ ms) = m.list

-- "all of a leaf's lists name the same yards, each yard once, inside its range": of one list, beside the first one
unfoldable pub same_yards : ℕ → ℕ → List Element → List Element → Bool
same_yards low high ref es = once es && (all (in_range low high) es && (named_by ref es && named_by es ref))

-- of some landmarks' lists
unfoldable pub agreeing : ℕ → ℕ → List Element → List Mark → Bool
agreeing low high ref ms = all (λ m. same_yards low high ref m.list) ms

-- of all of a leaf's lists
unfoldable pub leaf_ok : Region → Bool
leaf_ok r = agreeing r.first r.after (first_list r.marks) r.marks
