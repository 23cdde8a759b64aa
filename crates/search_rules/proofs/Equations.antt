-- The definitions of the bounds, one equation for each, for those who compute them. Assumes nothing.
use mathlib.Core.Path.{◌≡◌, refl}
use mathlib.Core.Bool.{false, not}
use mathlib.Core.List.Memᴰ.{head}
use mathlib.Core.List.Memᴰ.{tail}
use mathlib.Core.List.{List, [], ◌∷◌, Memᴰ as Mem}
use Prim.Native.Nat.{ℕ, ◌+◌, ◌-◌, ◌≤◌, ◌<◌, max}
use native.Mathlib.Omega.{arith}
use lib.Dec.{T, leb, eqb, le→leb, leb→le, nleb→lt, not_T}
use Rattle.book.specs.Choose.{choose}
use Rattle.book.proofs.Choosing.{choose_case, choose_yes, choose_no}
use Rattle.book.proofs.Lists.{eq→eqb, ne→neqb}
use Rattle.road.specs.Dijkstra.{dist}
use Rattle.kinds.specs.Kinds.{shares}
use Rattle.tree_layout.specs.Values.{Mark, region_at}
use Rattle.tree_layout.specs.Decode.{decode}
use Rattle.tree.specs.Yards.{kinds_of}
use Rattle.search_rules.specs.Rule.{Asking}
use Rattle.search_rules.specs.Instance.{Instance, marks}
use Rattle.search_rules.specs.Books.{search_of}
use Rattle.search_rules.specs.Bounds.{abs_diff, combine, aggregate, greatest_of, least_of, crew_bound, table_at, lower, upper, over, mark_bound, bound, weight}
use Rattle.search_rules.specs.Bounds.{first_mark, two_way_bound, one_way_bound, picked, best_of, chosen}

-- ---- numbers

pub combine-sum : (code a b : ℕ) → code ≡ 0 → a + b ≡ combine code a b
unfolding combine
combine-sum code a b e = rw (choose_yes (eqb code 0) (a + b) (max a b) (eq→eqb code 0 e)) refl

pub combine-max : (code a b : ℕ) → (code ≡ 0 → ⊥) → max a b ≡ combine code a b
unfolding combine
combine-max code a b h = rw (choose_no (eqb code 0) (a + b) (max a b) (ne→neqb code 0 h)) refl

pub combine-most : (code a b : ℕ) → combine code a b ≤ a + b
unfolding combine
combine-most code a b = choose_case (λ z. z ≤ a + b) (eqb code 0) (λ t. omega arith) (λ t. omega arith)

-- ---- a crew's bound

lt→nleb : (a b : ℕ) → b < a → T (not (leb a b))
lt→nleb a b h = not_T (leb a b) (λ t. omega (arith, leb→le a b t))

module _ (lb ub a b : ℕ) where
  -- the region is nearer to the landmark than the crew is
  pub crew-near : b ≤ lb → lb - b ≡ crew_bound lb ub a b
  unfolding crew_bound
  crew-near h = rw (choose_yes (leb b lb) (lb - b) (choose (leb ub a) (a - ub) 0) (le→leb b lb h)) refl

  -- it isn't: A − UB, which is 0 where UB is above A
  pub crew-far : lb < b → a - ub ≡ crew_bound lb ub a b
  unfolding crew_bound
  crew-far h = rw (choose_no (leb b lb) (lb - b) (choose (leb ub a) (a - ub) 0) (lt→nleb b lb h))
      (choose_case (λ z. a - ub ≡ z) (leb ub a) (λ t. refl) (λ t. omega (arith, nleb→lt ub a t)))

-- ---- nothing yet

pub aggregate-none : (code : ℕ) (g : ℕ → ℕ) → aggregate code g [] ≡ 0
unfolding aggregate
aggregate-none code g = refl

pub greatest-none : (g : Mark → ℕ) → greatest_of g [] ≡ 0
unfolding greatest_of
greatest-none g = refl

-- ---- numbers that agree on the members

pub aggregate-same : (code : ℕ) (g h : ℕ → ℕ) (qs : List ℕ) → ((q : ℕ) → Mem q qs → g q ≡ h q) → aggregate code g qs ≡ aggregate code h qs
unfolding aggregate
aggregate-same code g h [] k = refl
aggregate-same code g h (q ∷ qs) k = rw (k q (head refl), aggregate-same code g h qs (λ p j. k p (tail j))) refl

pub greatest-same : (g h : Mark → ℕ) (ms : List Mark) → ((m : Mark) → Mem m ms → g m ≡ h m) → greatest_of g ms ≡ greatest_of h ms
unfolding greatest_of
greatest-same g h [] k = refl
greatest-same g h (m ∷ ms) k = rw (k m (head refl), greatest-same g h ms (λ n j. k n (tail j))) refl

-- ---- an instance's bounds

module _ (i : Instance) where
  pub table_at_lem : (r : Mark) (v : ℕ) → table_at i r v ≡ i.d r.place v
  unfolding table_at
  table_at_lem r v = refl

  pub lower-is : (l q : ℕ) → lower i l q ≡ greatest_of (λ r. abs_diff (table_at i r l) (table_at i r q)) (marks i 0)
  unfolding lower
  lower-is l q = refl

  pub upper_is : (l q : ℕ) → upper i l q ≡ least_of (λ r. table_at i r l + table_at i r q) (marks i 0)
  unfolding upper
  upper_is l q = refl

  pub bound-is : T (not i.one_way) → (r : ℕ) → bound i r ≡ aggregate i.code (λ q. greatest_of (mark_bound i q) (marks i r)) i.crews
  unfolding bound two_way_bound over
  bound-is two r = choose_no i.one_way (one_way_bound i r) (two_way_bound i r) two

  pub weight_is : (m : Mark) → weight i m ≡ aggregate 0 (λ q. lower i m.place q) i.crews
  unfolding weight
  weight_is m = refl

  pub chosen_is : T (not i.one_way) → (r : ℕ) → chosen i r ≡ best_of i (marks i r)
  unfolding chosen picked
  chosen_is two r = choose_no i.one_way (first_mark (marks i r)) (picked i r) two

  pub marks-is : (r : ℕ) → marks i r ≡ (region_at i.tree.regions r).marks
  unfolding marks
  marks-is r = refl

-- ---- the search of two books

pub search_of_lem : (road tree : List ℕ) (a : Asking) (crews : List ℕ) → search_of road tree a crews ≡ record {
  code = a.code;
  rule = a.rule;
  crews = crews;
  tree = decode tree;
  d = dist road;
  admits = (search_of road tree a crews).admits;
  wants = (search_of road tree a crews).wants;
  one_way = false;
  towards = λ r. [];
  back = λ y. 0;
}
unfolding search_of
search_of_lem road tree a crews = refl

-- roads run both ways
pub two_way : (road tree : List ℕ) (a : Asking) (crews : List ℕ) → T (not (search_of road tree a crews).one_way)
unfolding search_of
two_way road tree a crews = tt

-- which regions may enter the queue, and which yards are wanted
module _ (road tree : List ℕ) (a : Asking) (crews : List ℕ) where
  pub admits_of : (r : ℕ) → (search_of road tree a crews).admits r ≡ shares a.wanted (region_at (decode tree).regions r).kinds
  unfolding search_of
  admits_of r = refl

  pub wants_of : (y : ℕ) → (search_of road tree a crews).wants y ≡ shares a.wanted (kinds_of (decode tree) y)
  unfolding search_of
  wants_of y = refl
