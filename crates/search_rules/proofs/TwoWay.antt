-- The two_way bounds are the case of equal seconds: where the distance is symmetric, 01's rule for a region is 02's with the distances towards a landmark for
-- those away from it. Assumes nothing.
use mathlib.Core.Path.{◌≡◌, refl, sym, ◌∙◌}
use mathlib.Core.List.Memᴰ.{head}
use mathlib.Core.List.Memᴰ.{tail}
use mathlib.Core.List.{List, [], ◌∷◌, Memᴰ as Mem}
use Prim.Native.Nat.{ℕ, ◌-◌, ◌≤◌, ◌<◌, max}
use native.Mathlib.Omega.{arith}
use lib.Dec.{leb, leb→le, nleb→lt}
use Rattle.book.proofs.Choosing.{choose_case}
use Rattle.tree_layout.specs.Values.{Mark}
use Rattle.search_rules.specs.Instance.{Instance, marks}
use Rattle.search_rules.specs.Bounds.{abs_diff, greatest_of, least_from, least_of, crew_bound, point_bound, table_at, lower, upper, over, mark_bound, two_way_bound}
use Rattle.search_rules.specs.Bounds.{lower_to, upper_from, away_bound, towards_bound}
use Rattle.search_rules.specs.Facts.{Shape, Triangle, Symmetric}
use Rattle.search_rules.proofs.Equations.{aggregate-same, greatest-same}
use Rattle.search_rules.proofs.Bounds.{lower-le, upper-le}

-- of numbers: least not above greatest, LB not above UB
pub crew_directed : (lb ub a b : ℕ) → a ≤ b → lb ≤ ub → crew_bound lb ub a b ≡ max (a - ub) (lb - b)
unfolding crew_bound
crew_directed lb ub a b h k = choose_case (λ z. z ≡ max (a - ub) (lb - b)) (leb b lb) (λ t. omega (arith, leb→le b lb t))
    (λ t. choose_case (λ z. z ≡ max (a - ub) (lb - b)) (leb ub a) (λ s. omega (arith, nleb→lt b lb t)) (λ s. omega (arith, nleb→lt b lb t, nleb→lt ub a s)))

-- a yard's difference by one landmark, where d(l, q) = d(q, l) and d(l, p) = d(p, l)
pub point_directed : (lp lq : ℕ) → point_bound lp lq lq lp ≡ abs_diff lq lp
unfolding point_bound abs_diff
point_directed lp lq = omega arith

swap : (x y : ℕ) → abs_diff x y ≡ abs_diff y x
unfolding abs_diff
swap x y = omega arith

greatest-max : (g h : Mark → ℕ) (ms : List Mark) → greatest_of (λ m. max (g m) (h m)) ms ≡ max (greatest_of g ms) (greatest_of h ms)
unfolding greatest_of
greatest-max g h [] = refl
greatest-max g h (m ∷ ms) = omega (arith, greatest-max g h ms)

least-from-same : (g h : Mark → ℕ) (m : Mark) (ms : List Mark) → ((n : Mark) → Mem n (m ∷ ms) → g n ≡ h n) → least_from g m ms ≡ least_from h m ms
unfolding least_from
least-from-same g h m [] k = k m (head refl)
least-from-same g h m (n ∷ ns) k = rw (k m (head refl), least-from-same g h n ns (λ o e. k o (tail e))) refl

least-same : (g h : Mark → ℕ) (ms : List Mark) → ((n : Mark) → Mem n ms → g n ≡ h n) → least_of g ms ≡ least_of h ms
unfolding least_of
least-same g h [] k = refl
least-same g h (m ∷ ms) k = least-from-same g h m ms k

module _ (i : Instance) (shape : Shape i) (metric : Triangle i) (symmetric : Symmetric i) where
  -- LB and UB are the same numbers in both readings
  pub lower_directed : (l q : ℕ) → l < i.tree.junctions → q < i.tree.junctions → lower i l q ≡ lower_to i l q
  unfolding lower lower_to table_at
  lower_directed l q a b = greatest-same _ _ (marks i 0) (λ m k. one m (shape.places 0 m k))
    where
      one : (m : Mark) → m.place < i.tree.junctions
          → abs_diff (i.d m.place l) (i.d m.place q) ≡ point_bound (i.d m.place l) (i.d m.place q) (i.d q m.place) (i.d l m.place)
      one m h = rw (symmetric.turn q m.place b h, symmetric.turn l m.place a h)
          (swap (i.d m.place l) (i.d m.place q) ∙ sym (point_directed (i.d m.place l) (i.d m.place q)))

  pub upper_directed : (l q : ℕ) → l < i.tree.junctions → q < i.tree.junctions → upper i l q ≡ upper_from i l q
  unfolding upper upper_from table_at
  upper_directed l q a b = least-same _ _ (marks i 0) (λ m k. rw (symmetric.turn l m.place a (shape.places 0 m k)) refl)

  -- 01's bound of a region is 02's, if each landmark's least is not above its greatest, as test 5 asks
  pub bound_directed : (r : ℕ) → ((m : Mark) → Mem m (marks i r) → m.least ≤ m.greatest)
      → two_way_bound i r ≡ over i (λ q. max (greatest_of (away_bound i q) (marks i r)) (greatest_of (towards_bound i q) (marks i r)))
  unfolding two_way_bound over mark_bound away_bound towards_bound
  bound_directed r ordered = aggregate-same i.code _ _ i.crews (λ q c.
      greatest-same _ _ (marks i r) (λ m k. one q m (shape.crews q c) (shape.places r m k) (ordered m k)) ∙ greatest-max _ _ (marks i r))
    where
      one : (q : ℕ) (m : Mark) → q < i.tree.junctions → m.place < i.tree.junctions → m.least ≤ m.greatest
          → crew_bound (lower i m.place q) (upper i m.place q) m.least m.greatest
          ≡ max (m.least - upper_from i m.place q) (lower_to i m.place q - m.greatest)
      one q m b a h =
          crew_directed (lower i m.place q) (upper i m.place q) m.least m.greatest h
          (omega (arith, lower-le i shape metric symmetric m.place q a b, upper-le i shape metric symmetric m.place q a b))
          ∙ rw (lower_directed m.place q a b, upper_directed m.place q a b) refl
