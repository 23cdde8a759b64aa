-- "Bounds and steps", its bounds: no distance from the crews is below them. Assumes nothing: these are definitions.
use Rattle.std.specs.Prelude.{Bool, List, [], ◌∷◌, ℕ, ◌+◌, ◌-◌, min, max, ltb, leb, eqb}
use Rattle.book.specs.Choose.{choose}
use Rattle.tree_layout.specs.Values.{Element, Mark, no_mark}
use Rattle.search_rules.specs.Instance.{Instance, marks}

-- the difference of two numbers
unfoldable pub abs_diff : ℕ → ℕ → ℕ
abs_diff a b = (a - b) + (b - a)

-- "The aggregate is the sum (code 0) or the maximum (code 1)": of two numbers
unfoldable pub combine : ℕ → ℕ → ℕ → ℕ
combine code a b = choose (eqb code 0) (a + b) (max a b)

-- ".. over the crews": of a number for each crew
unfoldable pub aggregate : ℕ → (ℕ → ℕ) → List ℕ → ℕ
aggregate code g [] = 0
aggregate code g (q ∷ qs) = combine code (g q) (aggregate code g qs)

-- the greatest of a number for each landmark
unfoldable pub greatest_of : (Mark → ℕ) → List Mark → ℕ
greatest_of g [] = 0
greatest_of g (m ∷ ms) = max (g m) (greatest_of g ms)

-- the least of a number for each landmark, of m and those after it
unfoldable pub least_from : (Mark → ℕ) → Mark → List Mark → ℕ
least_from g m [] = g m
least_from g m (n ∷ ns) = min (g m) (least_from g n ns)

unfoldable pub least_of : (Mark → ℕ) → List Mark → ℕ
least_of g [] = 0
least_of g (m ∷ ms) = least_from g m ms

-- "the crew's bound is LB − B if LB ≥ B, A − UB if UB ≤ A, else 0."
unfoldable pub crew_bound : (lb ub a b : ℕ) → ℕ
crew_bound lb ub a b = choose (leb b lb) (lb - b) (choose (leb ub a) (a - ub) 0)

-- "A crew's bound for a yard by one landmark is the greatest of 0, d(l, p) − d(l, q) and d(q, l) − d(p, l)": of these
-- four distances, in this order
unfoldable pub point_bound : (lp lq ql pl : ℕ) → ℕ
point_bound lp lq ql pl = max (lp - lq) (ql - pl)

-- the first of a leaf's landmarks
unfoldable pub first_mark : List Mark → Mark
first_mark [] = no_mark
first_mark (m ∷ ms) = m

module _ (i : Instance) where
  -- "The sheet holds d from the root's landmarks r to every junction." Its rows are the root's landmarks; this is row r
  -- at junction v.
  unfoldable pub table_at : Mark → ℕ → ℕ
  table_at r v = i.d r.place v

  -- "LB(l, q) is the greatest difference .. of sheet values at l and q."
  unfoldable pub lower : ℕ → ℕ → ℕ
  lower l q = greatest_of (λ r. abs_diff (table_at r l) (table_at r q)) (marks i 0)

  -- "UB(l, q) the least sum, of sheet values at l and q"
  unfoldable pub upper : ℕ → ℕ → ℕ
  upper l q = least_of (λ r. table_at r l + table_at r q) (marks i 0)

  -- the aggregate over the crews of a number for each
  unfoldable pub over : (ℕ → ℕ) → ℕ
  over g = aggregate i.code g i.crews

  -- a yard's aggregate: of the true distance d(q, p) from each crew q to yard p
  unfoldable pub total : ℕ → ℕ
  total p = over (λ q. i.d q p)

  -- the distance of its furthest crew: the greatest of these (code 1 is the maximum's)
  unfoldable pub furthest : ℕ → ℕ
  furthest p = aggregate 1 (λ q. i.d q p) i.crews

  -- "With a region's least distance A and greatest B from landmark l .., the crew's bound": of crew q for landmark m
  unfoldable pub mark_bound : ℕ → Mark → ℕ
  mark_bound q m = crew_bound (lower m.place q) (upper m.place q) m.least m.greatest

  -- "The greatest over the region's landmarks is taken, then the aggregate over crews."
  unfoldable pub two_way_bound : ℕ → ℕ
  two_way_bound r = over (λ q. greatest_of (mark_bound q) (marks i r))

  -- ---- one way

  -- "For the way from q to l, LB is the greatest of 0, d(r, l) − d(r, q) and d(q, r) − d(l, r)."
  unfoldable pub lower_to : ℕ → ℕ → ℕ
  lower_to l q =
      greatest_of (λ r. point_bound (i.d r.place l) (i.d r.place q) (i.d q r.place) (i.d l r.place)) (marks i 0)

  -- "For the way from l to q, UB is the least d(l, r) + d(r, q)."
  unfoldable pub upper_from : ℕ → ℕ → ℕ
  upper_from l q = least_of (λ r. i.d l r.place + i.d r.place q) (marks i 0)

  -- "A region's bound by l is the greatest of 0, its least distance away minus UB, and LB minus its greatest distance
  -- towards.": of the greatest over the region's landmarks the two parts, by the distances away and towards
  unfoldable pub away_bound : ℕ → Mark → ℕ
  away_bound q m = m.least - upper_from m.place q

  unfoldable pub towards_bound : ℕ → Mark → ℕ
  towards_bound q m = lower_to m.place q - m.greatest

  unfoldable pub one_way_bound : ℕ → ℕ
  one_way_bound r = over (λ q. max (greatest_of (away_bound q) (marks i r)) (greatest_of (towards_bound q) (i.towards r)))

  -- a region's bound, by the tree's version
  unfoldable pub bound : ℕ → ℕ
  bound r = choose i.one_way (one_way_bound r) (two_way_bound r)

  -- the "sum of LB over crews" of a landmark
  unfoldable pub weight : Mark → ℕ
  weight m = aggregate 0 (λ q. lower m.place q) i.crews

  -- "its landmark with greatest sum of LB over crews, ties to the first": of m and those after it
  unfoldable pub best : Mark → List Mark → Mark
  best m [] = m
  best m (n ∷ ns) = choose (ltb (weight m) (weight n)) (best n ns) (best m ns)

  unfoldable pub best_of : List Mark → Mark
  best_of [] = no_mark
  best_of (m ∷ ms) = best m ms

  -- "A leaf when first taken picks its landmark": leaf r's, which is the same whenever it is taken
  unfoldable pub picked : ℕ → Mark
  picked r = best_of (marks i r)

  -- the landmark by which a leaf's yards are bounded: "its leaf's first" on a version 3 tree, else the one it picks
  unfoldable pub chosen : ℕ → Mark
  chosen r = choose i.one_way (first_mark (marks i r)) (picked r)

  -- "|d(l, q) − d(l, p)| with the list's d(l, p)", of landmark m and element e
  unfoldable pub list_abs_diff : Mark → Element → ℕ → ℕ
  list_abs_diff m e q = abs_diff (i.d m.place q) e.distance

  -- "f, the aggregate of |d(l, q) − d(l, p)| with the list's d(l, p)"
  unfoldable pub f : Mark → Element → ℕ
  f m e = over (list_abs_diff m e)

  -- "A yard's bound takes per crew the greatest of these differences over the landmark table's landmarks and l (for l
  -- with the list's distance), then aggregates."
  unfoldable pub two_way_yard_bound : Mark → Element → ℕ
  two_way_yard_bound m e = over (λ q. max (lower e.yard q) (list_abs_diff m e q))

  -- "on a version 3 tree a yard's bound uses the sheet's landmarks and its leaf's first": for that one with the lists'
  -- distances
  unfoldable pub one_way_yard_bound : Mark → Element → ℕ
  one_way_yard_bound m e = over (λ q.
      max (lower_to e.yard q) (point_bound e.distance (i.d m.place q) (i.d q m.place) (i.back e.yard)))

  -- a yard's bound, by the tree's version
  unfoldable pub yard_bound : Mark → Element → ℕ
  yard_bound m e = choose i.one_way (one_way_yard_bound m e) (two_way_yard_bound m e)
