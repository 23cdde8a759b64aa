-- The bounds are sound: none is above the aggregate of a yard that it stands for. Assumes nothing.
use mathlib.Core.Path.{◌≡◌, refl, ap}
use mathlib.Core.Logic.{◌≢◌}
use mathlib.Core.Bool.{true, not}
use mathlib.Core.List.Memᴰ.{head}
use mathlib.Core.List.Memᴰ.{tail}
use mathlib.Core.List.{List, [], ◌∷◌, Memᴰ as Mem}
use Prim.Native.Nat.{ℕ, ◌+◌, ◌-◌, ◌≤◌, ◌<◌, max}
use native.Mathlib.Omega.{arith}
use lib.Dec.{T, T_not, leb, eqb}
use Rattle.book.specs.Choose.{choose}
use Rattle.book.proofs.Choosing.{choose_case, choose_yes, choose_no}
use Rattle.tree_layout.specs.Values.{Element, Mark}
use Rattle.tree_layout.proofs.Formed.{no_mark_list}
use Rattle.search_rules.specs.Instance.{Instance, size, children, marks, leaf}
use Rattle.search_rules.specs.Bounds.{abs_diff, combine, aggregate, greatest_of, least_from, least_of, crew_bound, table_at, lower, upper, over, total}
use Rattle.search_rules.specs.Bounds.{mark_bound}
use Rattle.search_rules.specs.Bounds.{point_bound, first_mark, two_way_bound, lower_to, upper_from, away_bound, towards_bound, one_way_bound, picked, two_way_yard_bound, one_way_yard_bound}
use Rattle.search_rules.specs.Bounds.{bound, best, best_of, chosen, list_abs_diff, f, yard_bound}
use Rattle.search_rules.specs.Facts.{Listed, Below, inside, under, Shape, Triangle, Symmetric, Truth}
use Rattle.search_rules.proofs.Choices.{choose-two}

-- ---- the greatest, the least, the aggregate

pub greatest_of-le : (h : Mark → ℕ) (x : ℕ) (ms : List Mark) → ((m : Mark) → Mem m ms → h m ≤ x) → greatest_of h ms ≤ x
unfolding greatest_of
greatest_of-le h x [] k = omega arith
greatest_of-le h x (m ∷ ms) k = omega (arith, k m (head refl), greatest_of-le h x ms (λ n e. k n (tail e)))

greatest_of_up : (h : Mark → ℕ) (ms : List Mark) (m : Mark) → Mem m ms → h m ≤ greatest_of h ms
unfolding greatest_of
greatest_of_up h [] n x' = elim x' [ ]
greatest_of_up h (m ∷ ms) n (head e) = omega (arith, ap h e)
greatest_of_up h (m ∷ ms) n (tail k) = omega (arith, greatest_of_up h ms n k)

pub abs_diff_both : (a b : ℕ) → abs_diff a b ≡ (a - b) + (b - a)
unfolding abs_diff
abs_diff_both a b = refl

abs_diff_sum : (a b c : ℕ) → abs_diff a c ≤ abs_diff a b + abs_diff b c
unfolding abs_diff
abs_diff_sum a b c = omega arith

abs_diff_up : (a b : ℕ) → a ≤ b + abs_diff a b
unfolding abs_diff
abs_diff_up a b = omega arith

least_from-le : (h : Mark → ℕ) (x : ℕ) (m : Mark) (ms : List Mark) → ((n : Mark) → Mem n (m ∷ ms) → x ≤ h n) → x ≤ least_from h m ms
unfolding least_from
least_from-le h x m [] k = k m (head refl)
least_from-le h x m (n ∷ ns) k = omega (arith, k m (head refl), least_from-le h x n ns (λ o e. k o (tail e)))

least_of-le : (h : Mark → ℕ) (x : ℕ) (ms : List Mark) → ms ≢ [] → ((n : Mark) → Mem n ms → x ≤ h n) → x ≤ least_of h ms
unfolding least_of
least_of-le h x [] s k = absurd (s refl)
least_of-le h x (m ∷ ms) s k = least_from-le h x m ms k

-- the aggregate of two numbers: it grows with them, 0 leaves the other, and it may be taken in any grouping
pub combine_mono : (code : ℕ) {a b c e : ℕ} → a ≤ b → c ≤ e → combine code a c ≤ combine code b e
unfolding combine
combine_mono code {a} {b} {c} {e} s t = choose-two ◌≤◌ (eqb code 0) (λ u. omega arith) (λ u. omega arith)

pub combine-zero : (code a : ℕ) → combine code a 0 ≡ a
unfolding combine
combine-zero code a = choose_case (λ x. x ≡ a) (eqb code 0) (λ t. omega arith) (λ t. omega arith)

pub zero-combine : (code a : ℕ) → combine code 0 a ≡ a
unfolding combine
zero-combine code a = choose_case (λ x. x ≡ a) (eqb code 0) (λ t. omega arith) (λ t. omega arith)

pub combine_assoc : (code a b c : ℕ) → combine code (combine code a b) c ≡ combine code a (combine code b c)
unfolding combine
combine_assoc code a b c = choose-two (λ (x y : ℕ). x ≡ y) (eqb code 0)
    (λ t. rw (choose_yes (eqb code 0) (a + b) (max a b) t, choose_yes (eqb code 0) (b + c) (max b c) t) (omega arith))
    (λ t. rw (choose_no (eqb code 0) (a + b) (max a b) t, choose_no (eqb code 0) (b + c) (max b c) t) (omega arith))

pub aggregate_mono : (code : ℕ) (g h : ℕ → ℕ) (qs : List ℕ) → ((q : ℕ) → Mem q qs → g q ≤ h q) → aggregate code g qs ≤ aggregate code h qs
unfolding aggregate
aggregate_mono code g h [] k = omega arith
aggregate_mono code g h (q ∷ qs) k = combine_mono code (k q (head refl)) (aggregate_mono code g h qs (λ p e. k p (tail e)))

crew_bound-le : (lb ub a b dq dp x : ℕ) → lb ≤ dq → dq ≤ ub → a ≤ dp → dp ≤ b → dq ≤ dp + x → dp ≤ dq + x → crew_bound lb ub a b ≤ x
unfolding crew_bound
crew_bound-le lb ub a b dq dp x h1 h2 h3 h4 h5 h6 =
    choose_case (λ z. z ≤ x) (leb b lb) (λ t. omega arith) (λ t. choose_case (λ z. z ≤ x) (leb ub a) (λ s. omega arith) (λ s. omega arith))

crew_bound-under : (lb ub a b x : ℕ) → lb ≤ b + x → a - x ≤ ub → crew_bound lb ub a b ≤ x
unfolding crew_bound
crew_bound-under lb ub a b x h k =
    choose_case (λ z. z ≤ x) (leb b lb) (λ t. omega arith) (λ t. choose_case (λ z. z ≤ x) (leb ub a) (λ s. omega arith) (λ s. omega arith))

-- of one crew the aggregate is its number
pub of_one : (code : ℕ) (g : ℕ → ℕ) (q : ℕ) → aggregate code g (q ∷ []) ≡ g q
unfolding aggregate combine
of_one code g q = choose_case (λ x. x ≡ g q) (eqb code 0) (λ t. omega arith) (λ t. omega arith)

module _ (i : Instance) where
  -- ---- a leaf's chosen landmark is one of its landmarks

  best-mem : (m : Mark) (ms : List Mark) → Mem (best i m ms) (m ∷ ms)
  unfolding best
  best-mem m [] = head refl
  best-mem m (x ∷ xs) =
      choose_case (λ c. Mem c (m ∷ x ∷ xs)) _ (λ t. tail (best-mem x xs)) (λ t. skip (best-mem m xs))
    where
      skip : {c : Mark} → Mem c (m ∷ xs) → Mem c (m ∷ x ∷ xs)
      skip (head e) = head e
      skip (tail k) = tail (tail k)

  best_of-mem : (ms : List Mark) → ms ≢ [] → Mem (best_of i ms) ms
  unfolding best_of
  best_of-mem [] s = absurd (s refl)
  best_of-mem (m ∷ ms) s = best-mem m ms

  first-mem : (ms : List Mark) → ms ≢ [] → Mem (first_mark ms) ms
  unfolding first_mark
  first-mem [] s = absurd (s refl)
  first-mem (m ∷ ms) s = head refl

  pub chosen-mem : (r : ℕ) → marks i r ≢ [] → Mem (chosen i r) (marks i r)
  unfolding chosen picked
  chosen-mem r s = choose_case (λ (m : Mark). Mem m (marks i r)) i.one_way (λ t. first-mem (marks i r) s) (λ t. best_of-mem (marks i r) s)

  -- a region without landmarks has no list
  pub chosen_none : (r : ℕ) → marks i r ≡ [] → (chosen i r).list ≡ []
  unfolding chosen picked best_of first_mark
  chosen_none r n = choose_case (λ (m : Mark). m.list ≡ []) i.one_way (λ t. rw n no_mark_list) (λ t. rw n no_mark_list)

  -- on a tree with both directions it is the first
  pub chosen-first : T i.one_way → (r : ℕ) → chosen i r ≡ first_mark (marks i r)
  unfolding chosen
  chosen-first t r = choose_yes i.one_way (first_mark (marks i r)) (picked i r) t

  -- ---- bounds by the tree's version

  pub yard-two : T (not i.one_way) → (m : Mark) (e : Element) → yard_bound i m e ≡ two_way_yard_bound i m e
  unfolding yard_bound
  yard-two t m e = choose_no i.one_way (one_way_yard_bound i m e) (two_way_yard_bound i m e) t

  -- ---- bounds

  pub over_mono : (g h : ℕ → ℕ) → ((q : ℕ) → Mem q i.crews → g q ≤ h q) → over i g ≤ over i h
  unfolding over
  over_mono g h k = aggregate_mono i.code g h i.crews k

  -- f is at most the yard's bound, whatever the tree says
  pub f-le : T (not i.one_way) → (m : Mark) (e : Element) → f i m e ≤ yard_bound i m e
  unfolding f two_way_yard_bound
  f-le t m e = rw (yard-two t m e) (over_mono _ _ (λ q k. omega arith))

  -- what the table says of a crew and a yard, by the tree's version
  unfoldable pub table_bound : ℕ → ℕ
  table_bound y = choose i.one_way (over i (lower_to i y)) (over i (lower i y))

  -- its aggregate is at most the yard's bound
  pub lower-under : (m : Mark) (e : Element) → table_bound e.yard ≤ yard_bound i m e
  unfolding table_bound yard_bound two_way_yard_bound one_way_yard_bound
  lower-under m e = choose-two ◌≤◌ i.one_way (λ t. over_mono _ _ (λ q k. omega arith)) (λ t. over_mono _ _ (λ q k. omega arith))

  -- ---- yards below a region

  -- the region may enter the queue, and the yard is wanted
  pub below-admitted : {r y : ℕ} → Below i r y → T (i.admits r)
  below-admitted (inside m a l e k w) = a
  below-admitted (under c a l e b) = a

  pub below-wanted : {r y : ℕ} → Below i r y → T (i.wants y)
  below-wanted (inside m a l e k w) = w
  below-wanted (under c a l e b) = below-wanted b

  -- what is below an inner region is below a child, and what is below a leaf stands in one of its lists
  pub open_below : {r y : ℕ} → T (not (leaf i r)) → Below i r y → (c : ℕ) × Mem c (children i r) × Below i c y
  open_below {r} n (inside m a l k x w) = absurd (T_not (leaf i r) n l)
  open_below n (under c a l k b) = (c, k, b)

  leaf-below : {r y : ℕ} → T (leaf i r) → Below i r y → (m : Mark) × Mem m (marks i r) × Listed m y
  leaf-below l (inside m a t k x w) = (m, k, x)
  leaf-below {r} l (under c a n k b) = absurd (T_not (leaf i r) n l)

  -- a landmark's bound is by its least and its greatest, in a leaf its whole list's first and last, whatever is wanted
  pub mark_bound-is : (q : ℕ) (m : Mark)
      → mark_bound i q m ≡ crew_bound (lower i m.place q) (upper i m.place q) m.least m.greatest
  unfolding mark_bound
  mark_bound-is q m = refl

  module _ (shape : Shape i) where
    -- a yard is a junction
    pub below-range : {r y : ℕ} → Below i r y → y < i.tree.junctions
    below-range (inside {r = r} m a l e k w) = rw (← k.names) (shape.yards r m k.element l e k.mem)
    below-range (under c a l e b) = below-range b

    -- a yard below a leaf stands in the list of the landmark that the leaf picks
    pub in_chosen : {r y : ℕ} → r < size i → T (leaf i r) → Below i r y → Listed (chosen i r) y
    in_chosen {r} {y} h l b = let (m, k, x) = leaf-below l b in shape.alike r m (chosen i r) y l k (chosen-mem r (shape.marked r h)) x

    module _ (metric : Triangle i) (symmetric : Symmetric i) where
      -- two distances from one junction differ by no more than the distance between
      abs_diff_le : (u v w : ℕ) → u < i.tree.junctions → v < i.tree.junctions → w < i.tree.junctions → abs_diff (i.d u v) (i.d u w) ≤ i.d v w
      unfolding abs_diff
      abs_diff_le u v w a b c = omega (arith, metric.triangle u w v a c b, metric.triangle u v w a b c, symmetric.turn v w b c)

      pub lower-le : (l q : ℕ) → l < i.tree.junctions → q < i.tree.junctions → lower i l q ≤ i.d l q
      unfolding lower table_at
      lower-le l q a b = greatest_of-le (λ r. abs_diff (i.d r.place l) (i.d r.place q)) (i.d l q) (marks i 0)
          (λ m e. abs_diff_le m.place l q (shape.places 0 m e) a b)

      pub upper-le : (l q : ℕ) → l < i.tree.junctions → q < i.tree.junctions → i.d l q ≤ upper i l q
      unfolding upper table_at
      upper-le l q a b = least_of-le (λ r. i.d r.place l + i.d r.place q) (i.d l q) (marks i 0) (shape.marked 0 shape.root)
          (λ m e. omega (arith, metric.triangle l m.place q a (shape.places 0 m e) b, symmetric.turn l m.place a (shape.places 0 m e)))

      module _ (truth : Truth i) where
        mark_bound-le : (r : ℕ) (m : Mark) (y q : ℕ) → Mem m (marks i r) → Below i r y → q < i.tree.junctions → mark_bound i q m ≤ i.d q y
        mark_bound-le r m y q e b c =
            rw (mark_bound-is q m)
            (crew_bound-le _ _ m.least m.greatest (i.d l q) (i.d l y) (i.d q y)
            (omega (arith, lower-le l q a c)) (omega (arith, upper-le l q a c)) (truth.least r m y e b) (truth.greatest r m y e b)
            (omega (arith, metric.triangle l y q a (below-range b) c, symmetric.turn q y c (below-range b)))
            (metric.triangle l q y a c (below-range b)))
          where
            l : ℕ
            l = m.place

            a : l < i.tree.junctions
            a = shape.places r m e

        -- nor is it above the difference that the table gives of the yard
        mark_bound-lower : (r : ℕ) (m : Mark) (y q : ℕ) → Mem m (marks i r) → Below i r y → q < i.tree.junctions → mark_bound i q m ≤ lower i y q
        unfolding lower upper table_at
        mark_bound-lower r m y q e b c =
            rw (mark_bound-is q m)
            (crew_bound-under (lower i l q) (upper i l q) m.least m.greatest (lower i y q)
            (greatest_of-le (λ x. abs_diff (i.d x.place l) (i.d x.place q)) (m.greatest + lower i y q) (marks i 0) (λ x k. low x k))
            (least_of-le (λ x. i.d x.place l + i.d x.place q) (m.least - lower i y q) (marks i 0) (shape.marked 0 shape.root) (λ x k. high x k)))
          where
            l : ℕ
            l = m.place

            a : l < i.tree.junctions
            a = shape.places r m e

            -- a row's difference at y and q
            row : (x : Mark) → Mem x (marks i 0) → abs_diff (i.d x.place y) (i.d x.place q) ≤ lower i y q
            row x k = greatest_of_up (λ z. abs_diff (i.d z.place y) (i.d z.place q)) (marks i 0) x k

            low : (x : Mark) → Mem x (marks i 0) → abs_diff (i.d x.place l) (i.d x.place q) ≤ m.greatest + lower i y q
            low x k = omega (
              arith,
              abs_diff_sum (i.d x.place l) (i.d x.place y) (i.d x.place q),
              abs_diff_le x.place l y (shape.places 0 x k) a (below-range b),
              row x k,
              truth.greatest r m y e b,
            )

            high : (x : Mark) → Mem x (marks i 0) → m.least - lower i y q ≤ i.d x.place l + i.d x.place q
            high x k = omega (
              arith,
              abs_diff_up (i.d x.place y) (i.d x.place q),
              metric.triangle l x.place y a (shape.places 0 x k) (below-range b),
              symmetric.turn l x.place a (shape.places 0 x k),
              row x k,
              truth.least r m y e b,
            )

        -- so a region's bound is at most the aggregate of these, and the bound of every yard below it
        two-under : {r y : ℕ} → Below i r y → two_way_bound i r ≤ over i (lower i y)
        unfolding two_way_bound
        two-under {r} {y} b = over_mono (λ q. greatest_of (mark_bound i q) (marks i r)) (lower i y)
            (λ q k. greatest_of-le (mark_bound i q) (lower i y q) (marks i r) (λ m e. mark_bound-lower r m y q e b (shape.crews q k)))

        -- a region's bound is at most the aggregate of every yard below it
        two-le : {r y : ℕ} → Below i r y → two_way_bound i r ≤ total i y
        unfolding two_way_bound total
        two-le {r} {y} b = over_mono (λ q. greatest_of (mark_bound i q) (marks i r)) (λ q. i.d q y)
            (λ q k. greatest_of-le (mark_bound i q) (i.d q y) (marks i r) (λ m e. mark_bound-le r m y q e b (shape.crews q k)))

        -- a yard's bound is at most its aggregate
        two-yard-le : (r : ℕ) (m : Mark) (e : Element) → T (leaf i r) → Mem m (marks i r) → Mem e m.list → two_way_yard_bound i m e ≤ total i e.yard
        unfolding two_way_yard_bound total list_abs_diff
        two-yard-le r m e l k j = over_mono _ _ (λ q c. omega (arith, one q (shape.crews q c)))
          where
            y : e.yard < i.tree.junctions
            y = shape.yards r m e l k j

            one : (q : ℕ) → q < i.tree.junctions → max (lower i e.yard q) (abs_diff (i.d m.place q) e.distance) ≤ i.d q e.yard
            one q c = rw (truth.lists r m e l k j)
                (omega (arith, lower-le e.yard q y c, symmetric.turn q e.yard c y, abs_diff_le m.place q e.yard (shape.places r m k) c y))

    -- ---- one way: the triangle alone

    module _ (metric : Triangle i) where
      -- "A crew's bound for a yard by one landmark": by true distances it is at most the distance from the crew
      point_le : (l q p : ℕ) → l < i.tree.junctions → q < i.tree.junctions → p < i.tree.junctions
          → point_bound (i.d l p) (i.d l q) (i.d q l) (i.d p l) ≤ i.d q p
      unfolding point_bound
      point_le l q p a b c = omega (arith, metric.triangle l q p a b c, metric.triangle q p l b c a)

      pub lower_to-le : (l q : ℕ) → l < i.tree.junctions → q < i.tree.junctions → lower_to i l q ≤ i.d q l
      unfolding lower_to
      lower_to-le l q a b =
          greatest_of-le (λ r. point_bound (i.d r.place l) (i.d r.place q) (i.d q r.place) (i.d l r.place)) (i.d q l) (marks i 0)
          (λ m e. point_le m.place q l (shape.places 0 m e) b a)

      module _ (truth : Truth i) where
        -- each part of a region's bound is at most what the table says of a yard below it
        away_under : (r : ℕ) (m : Mark) (y q : ℕ) → Mem m (marks i r) → Below i r y → q < i.tree.junctions → away_bound i q m ≤ lower_to i y q
        unfolding away_bound upper_from lower_to point_bound
        away_under r m y q e b c = under
          where
            l : ℕ
            l = m.place

            a : l < i.tree.junctions
            a = shape.places r m e

            n : ℕ
            n = greatest_of (λ x. point_bound (i.d x.place y) (i.d x.place q) (i.d q x.place) (i.d y x.place)) (marks i 0)

            row : (x : Mark) → Mem x (marks i 0) → point_bound (i.d x.place y) (i.d x.place q) (i.d q x.place) (i.d y x.place) ≤ n
            row x k = greatest_of_up (λ z. point_bound (i.d z.place y) (i.d z.place q) (i.d q z.place) (i.d y z.place)) (marks i 0) x k

            high : (x : Mark) → Mem x (marks i 0) → m.least - n ≤ i.d l x.place + i.d x.place q
            high x k = omega (arith, row x k, metric.triangle l x.place y a (shape.places 0 x k) (below-range b), truth.least r m y e b)

            under : m.least - least_of (λ x. i.d l x.place + i.d x.place q) (marks i 0) ≤ n
            under = omega (
              arith,
              least_of-le (λ x. i.d l x.place + i.d x.place q) (m.least - n) (marks i 0) (shape.marked 0 shape.root) high,
            )

        towards-under : (r : ℕ) (m : Mark) (y q : ℕ) → Mem m (i.towards r) → Below i r y → q < i.tree.junctions → towards_bound i q m ≤ lower_to i y q
        unfolding towards_bound lower_to point_bound
        towards-under r m y q e b c = under
          where
            l : ℕ
            l = m.place

            a : l < i.tree.junctions
            a = shape.returns r m e

            n : ℕ
            n = greatest_of (λ x. point_bound (i.d x.place y) (i.d x.place q) (i.d q x.place) (i.d y x.place)) (marks i 0)

            row : (x : Mark) → Mem x (marks i 0) → point_bound (i.d x.place y) (i.d x.place q) (i.d q x.place) (i.d y x.place) ≤ n
            row x k = greatest_of_up (λ z. point_bound (i.d z.place y) (i.d z.place q) (i.d q z.place) (i.d y z.place)) (marks i 0) x k

            low : (x : Mark) → Mem x (marks i 0)
                → point_bound (i.d x.place l) (i.d x.place q) (i.d q x.place) (i.d l x.place) ≤ m.greatest + n
            low x k = omega (
              arith,
              row x k,
              metric.triangle x.place y l (shape.places 0 x k) (below-range b) a,
              metric.triangle y l x.place (below-range b) a (shape.places 0 x k),
              truth.furthest r m y e b,
            )

            under : greatest_of (λ x. point_bound (i.d x.place l) (i.d x.place q) (i.d q x.place) (i.d l x.place)) (marks i 0) - m.greatest ≤ n
            under = omega (
              arith,
              greatest_of-le (λ x. point_bound (i.d x.place l) (i.d x.place q) (i.d q x.place) (i.d l x.place)) (m.greatest + n) (marks i 0) low,
            )

        one-under : {r y : ℕ} → Below i r y → one_way_bound i r ≤ over i (lower_to i y)
        unfolding one_way_bound
        one-under {r} {y} b = over_mono _ (lower_to i y) (λ q k. omega (
          arith,
          greatest_of-le (away_bound i q) (lower_to i y q) (marks i r) (λ m e. away_under r m y q e b (shape.crews q k)),
          greatest_of-le (towards_bound i q) (lower_to i y q) (i.towards r) (λ m e. towards-under r m y q e b (shape.crews q k)),
        ))

        lower_to-total : {r y : ℕ} → Below i r y → over i (lower_to i y) ≤ total i y
        unfolding total
        lower_to-total {r} {y} b = over_mono (lower_to i y) (λ q. i.d q y) (λ q k. lower_to-le y q (below-range b) (shape.crews q k))

        one-yard-le : (r : ℕ) (e : Element) → T i.one_way → r < size i → T (leaf i r) → Mem e (chosen i r).list
            → one_way_yard_bound i (chosen i r) e ≤ total i e.yard
        unfolding one_way_yard_bound total
        one-yard-le r e t h l j = over_mono _ _ (λ q c. omega (arith, one q (shape.crews q c)))
          where
            k : Mem (chosen i r) (marks i r)
            k = chosen-mem r (shape.marked r h)

            y : e.yard < i.tree.junctions
            y = shape.yards r (chosen i r) e l k j

            was : i.back e.yard ≡ i.d e.yard (chosen i r).place
            was = rw (chosen-first t r) (truth.backs t r e h l (rw (chosen-first t r) at j))

            one : (q : ℕ) → q < i.tree.junctions
                → max (lower_to i e.yard q) (point_bound e.distance (i.d (chosen i r).place q) (i.d q (chosen i r).place) (i.back e.yard))
                ≤ i.d q e.yard
            one q c = rw (truth.lists r (chosen i r) e l k j, was)
                (omega (arith, lower_to-le e.yard q y c, point_le (chosen i r).place q e.yard (shape.places r (chosen i r) k) c y))

    -- ---- by the tree's version

    module _ (metric : Triangle i) (symmetric : T (not i.one_way) → Symmetric i) (truth : Truth i) where
      pub bound-under : {r y : ℕ} → Below i r y → bound i r ≤ table_bound y
      unfolding bound table_bound
      bound-under b = choose-two ◌≤◌ i.one_way (λ t. one-under metric truth b) (λ t. two-under metric (symmetric t) truth b)

      -- a region's bound is at most the aggregate of every yard below it
      pub bound-le : {r y : ℕ} → Below i r y → bound i r ≤ total i y
      unfolding bound
      bound-le {r} {y} b = choose_case (λ x. x ≤ total i y) i.one_way (λ t. omega (arith, one-under metric truth b, lower_to-total metric truth b))
          (λ t. two-le metric (symmetric t) truth b)

      -- a yard's bound, by its leaf's landmark, is at most its aggregate
      pub yard_bound-le : (r : ℕ) (e : Element) → r < size i → T (leaf i r) → Mem e (chosen i r).list → yard_bound i (chosen i r) e ≤ total i e.yard
      unfolding yard_bound
      yard_bound-le r e h l j = choose_case (λ x. x ≤ total i e.yard) i.one_way (λ t. one-yard-le metric truth r e t h l j)
          (λ t. two-yard-le metric (symmetric t) truth r (chosen i r) e l (chosen-mem r (shape.marked r h)) j)
