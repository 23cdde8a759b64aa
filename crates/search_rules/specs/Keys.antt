-- "Exactly the yards worth measuring": a yard's key as a value of the tree, the roads and the query alone. Assumes
-- nothing: these are definitions.
use Rattle.std.specs.Prelude.{Bool, ◌&&◌, List, [], ◌∷◌, ℕ, zero, suc, max, eqb}
use Rattle.book.specs.Choose.{choose}
use Rattle.tree_layout.specs.Values.{Element, Mark}
use Rattle.tree_leaf.specs.Leaf.{names}
use Rattle.tree.specs.Yards.{on_way}
use Rattle.search_rules.specs.Instance.{Instance, size, leaf}
use Rattle.search_rules.specs.Bounds.{bound, chosen, yard_bound}

module _ (i : Instance) where
  -- of n regions from number s on, the greatest bound of those on the way from the root to region r
  unfoldable pub greatest_bound : ℕ → ℕ → ℕ → ℕ
  greatest_bound zero s r = 0
  greatest_bound (suc n) s r =
      max (choose (on_way i.tree.regions s r) (bound i s) 0) (greatest_bound n (suc s) r)

  -- "A region's key is the greater of this and its parent's key.": region r's first key, the greatest bound on the way
  -- from the root
  unfoldable pub first_key : ℕ → ℕ
  first_key r = greatest_bound (size i) 0 r

  -- region r is yard y's leaf: the list of the landmark that it picks names y, as each of its lists does
  unfoldable pub is_home : ℕ → ℕ → Bool
  is_home r y = leaf i r && names (chosen i r).list y

  -- yard y's leaf, of n regions from number r on, or the number after them if none of them is
  unfoldable pub home_from : ℕ → ℕ → ℕ → ℕ
  home_from zero r y = r
  home_from (suc n) r y = choose (is_home r y) r (home_from n (suc r) y)

  unfoldable pub home : ℕ → ℕ
  home y = home_from (size i) 0 y

  -- yard y's bound, by landmark m and the elements of its list; 0 if none of them names it
  unfoldable pub bound_in : Mark → List Element → ℕ → ℕ
  bound_in m [] y = 0
  bound_in m (e ∷ es) y = choose (eqb e.yard y) (yard_bound i m e) (bound_in m es y)

  -- "Its key is the greater of its bound and the leaf's first key.": yard y's
  unfoldable pub yard_key : ℕ → ℕ
  yard_key y =
      let r = home y in
      let m = chosen i r in
      max (bound_in m m.list y) (first_key r)
