-- The limits of bounds and aggregates, whatever the tree's numbers say. Assumes nothing.
use mathlib.Core.Path.{refl}
use mathlib.Core.List.Memᴰ.{head}
use mathlib.Core.List.{List, [], ◌∷◌, Memᴰ as Mem}
use Prim.Native.Nat.{ℕ, suc, ◌+◌, ◌-◌, ◌*◌, ◌≤◌, ◌<◌, max}
use native.Mathlib.Nat.{suc-mul, mul-le-mul_right}
use native.Mathlib.Omega.{arith}
use lib.ListN.{length}
use lib.Dec.{T, leb, eqb}
use Rattle.book.proofs.Choosing.{choose_case}
use Rattle.tree_layout.specs.Values.{Element, Mark}
use Rattle.search_rules.specs.Instance.{Instance, marks, leaf}
use Rattle.search_rules.specs.Bounds.{abs_diff, combine, aggregate, greatest_of, least_from, least_of, crew_bound, table_at, lower, upper, over, total}
use Rattle.search_rules.specs.Bounds.{mark_bound}
use Rattle.search_rules.specs.Bounds.{point_bound, two_way_bound, lower_to, away_bound, towards_bound, one_way_bound, two_way_yard_bound, one_way_yard_bound}
use Rattle.search_rules.specs.Bounds.{bound, weight, list_abs_diff, f, yard_bound}
use Rattle.search_rules.specs.Facts.{WellFormed}
use Rattle.search_rules.proofs.Bounds.{greatest_of-le, aggregate_mono}

crew_bound-most : (lb ub a b most : ℕ) → lb ≤ most → a ≤ most → crew_bound lb ub a b ≤ most
unfolding crew_bound
crew_bound-most lb ub a b most h k = choose_case (λ z. z ≤ most) (leb b lb) (λ t. omega arith) (λ t. choose_case (λ z. z ≤ most) (leb ub a) (λ s. omega arith)
    (λ s. omega arith))

pub abs_diff_most : (a b most : ℕ) → a ≤ most → b ≤ most → abs_diff a b ≤ most
unfolding abs_diff
abs_diff_most a b most h k = omega arith

-- the aggregate of one number for each crew is at most that number for each crew
aggregate-each : (code most : ℕ) (qs : List ℕ) → aggregate code (λ q. most) qs ≤ length qs * most
unfolding aggregate combine
aggregate-each code most [] = omega arith
aggregate-each code most (q ∷ qs) = choose_case (λ z. z ≤ suc (length qs) * most) (eqb code 0)
    (λ t. rw suc-mul (omega (arith, aggregate-each code most qs))) (λ t. rw suc-mul (omega (arith, aggregate-each code most qs)))

-- with no more than sixteen crews
pub aggregate-most : (code most : ℕ) (qs : List ℕ) (g : ℕ → ℕ) → length qs ≤ 16 → ((q : ℕ) → Mem q qs → g q ≤ most) → aggregate code g qs ≤ 16 * most
aggregate-most code most qs g few h = omega (arith, aggregate_mono code g (λ q. most) qs h, aggregate-each code most qs, mul-le-mul_right most few)

least_from-most : (h : Mark → ℕ) (x : ℕ) (m : Mark) (ms : List Mark) → h m ≤ x → least_from h m ms ≤ x
unfolding least_from
least_from-most h x m [] k = k
least_from-most h x m (n ∷ ns) k = omega arith

least_of-most : (h : Mark → ℕ) (x : ℕ) (ms : List Mark) → ((m : Mark) → Mem m ms → h m ≤ x) → least_of h ms ≤ x
unfolding least_of
least_of-most h x [] k = omega arith
least_of-most h x (m ∷ ms) k = least_from-most h x m ms (k m (head refl))

module _ (i : Instance) (well : WellFormed i) where
  over-most : (g : ℕ → ℕ) (most : ℕ) → ((q : ℕ) → Mem q i.crews → g q ≤ most) → over i g ≤ 16 * most
  unfolding over
  over-most g most h = aggregate-most i.code most i.crews g well.small.few-crews h

  pub lower-most : (l q : ℕ) → l < i.tree.junctions → q < i.tree.junctions → lower i l q ≤ 67042305
  unfolding lower table_at
  lower-most l q a b = greatest_of-le (λ r. abs_diff (i.d r.place l) (i.d r.place q)) 67042305 (marks i 0)
      (λ m k. abs_diff_most (i.d m.place l) (i.d m.place q) 67042305 (well.small.distances m.place l (well.shape.places 0 m k) a) (well.small.distances m.place q (well.shape.places 0 m k) b))

  pub upper-most : (l q : ℕ) → l < i.tree.junctions → q < i.tree.junctions → upper i l q ≤ 134084610
  unfolding upper table_at
  upper-most l q a b = least_of-most (λ r. i.d r.place l + i.d r.place q) 134084610 (marks i 0)
      (λ m k. omega (
        arith,
        well.small.distances m.place l (well.shape.places 0 m k) a,
        well.small.distances m.place q (well.shape.places 0 m k)
            b,
      ))

  -- a region's bound: sixteen times a u32
  two-most : (r : ℕ) → two_way_bound i r ≤ 68719476720
  unfolding two_way_bound mark_bound
  two-most r = over-most (λ q. greatest_of (mark_bound i q) (marks i r)) 4294967295
      (λ q c. greatest_of-le (mark_bound i q) 4294967295 (marks i r) (λ m k. crew_bound-most _ _ m.least m.greatest 4294967295
      (omega (arith, lower-most m.place q (well.shape.places r m k) (well.shape.crews q c))) (well.small.least r m k)))

  pub lower_to-most : (l q : ℕ) → l < i.tree.junctions → q < i.tree.junctions → lower_to i l q ≤ 67042305
  unfolding lower_to point_bound
  lower_to-most l q a b = greatest_of-le (λ r. max (i.d r.place l - i.d r.place q) (i.d q r.place - i.d l r.place)) 67042305 (marks i 0)
      (λ m k. omega (
        arith,
        well.small.distances m.place l (well.shape.places 0 m k) a,
        well.small.distances q m.place b (well.shape.places 0 m k),
      ))

  one-most : (r : ℕ) → one_way_bound i r ≤ 68719476720
  unfolding one_way_bound away_bound towards_bound
  one-most r = over-most _ 4294967295 (λ q c. omega (
    arith,
    greatest_of-le (away_bound i q) 4294967295 (marks i r) (λ m k. omega (arith, well.small.least r m k)),
    greatest_of-le (towards_bound i q) 4294967295 (i.towards r) (λ m k. omega (arith, lower_to-most m.place q (well.shape.returns r m k) (well.shape.crews q c))),
  ))

  pub bound-most : (r : ℕ) → bound i r ≤ 68719476720
  unfolding bound
  bound-most r = choose_case (λ x. x ≤ 68719476720) i.one_way (λ t. one-most r) (λ t. two-most r)

  module _ (r : ℕ) (m : Mark) (e : Element) (l : T (leaf i r)) (k : Mem m (marks i r)) (j : Mem e m.list) where
    list_abs_diff-most : (q : ℕ) → q < i.tree.junctions → list_abs_diff i m e q ≤ 67042305
    unfolding list_abs_diff
    list_abs_diff-most q c = abs_diff_most (i.d m.place q) e.distance 67042305 (well.small.distances m.place q (well.shape.places r m k) c) (well.small.lists r m e l k j)

    pub f-most : f i m e ≤ 1072676880
    unfolding f
    f-most = over-most _ 67042305 (λ q c. omega (arith, list_abs_diff-most q (well.shape.crews q c)))

    one-yard-most : one_way_yard_bound i m e ≤ 1072676880
    unfolding one_way_yard_bound point_bound
    one-yard-most = over-most _ 67042305 (λ q c. omega (
      arith,
      lower_to-most e.yard q (well.shape.yards r m e l k j) (well.shape.crews q c),
      well.small.lists r m e l k j,
      well.small.distances q m.place (well.shape.crews q c) (well.shape.places r m k),
    ))

    two-yard-most : two_way_yard_bound i m e ≤ 1072676880
    unfolding two_way_yard_bound
    two-yard-most = over-most _ 67042305
        (λ q c. omega (arith, list_abs_diff-most q (well.shape.crews q c), lower-most e.yard q (well.shape.yards r m e l k j) (well.shape.crews q c)))

    pub yard_bound-most : yard_bound i m e ≤ 1072676880
    unfolding yard_bound
    yard_bound-most = choose_case (λ x. x ≤ 1072676880) i.one_way (λ t. one-yard-most) (λ t. two-yard-most)

  -- a yard's aggregate, which is written in a word of 32 bits, and the sum by which a leaf picks its landmark
  pub total-most : (y : ℕ) → y < i.tree.junctions → total i y ≤ 1072676880
  unfolding total
  total-most y h = over-most (λ q. i.d q y) 67042305 (λ q c. well.small.distances q y (well.shape.crews q c) h)

  pub weight-most : (r : ℕ) (m : Mark) → Mem m (marks i r) → weight i m ≤ 1072676880
  unfolding weight
  weight-most r m k = aggregate-most _ 67042305 i.crews _ well.small.few-crews (λ q c. lower-most m.place q (well.shape.places r m k) (well.shape.crews q c))
