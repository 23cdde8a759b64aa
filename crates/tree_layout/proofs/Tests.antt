-- Laws of the tests of a tree book: a test over a list, and what each test of a value says. Assumes nothing.
use mathlib.Core.Path.{◌≡◌, refl}
use mathlib.Core.Logic.{◌⊎◌, inl, inr}
use mathlib.Core.Bool.{Bool, ◌&&◌, ◌||◌}
use mathlib.Core.List.Memᴰ.{head}
use mathlib.Core.List.Memᴰ.{not-nil}
use mathlib.Core.List.Memᴰ.{tail}
use mathlib.Core.List.{List, [], ◌∷◌, Memᴰ as Mem}
use mathlib.Core.List.Memᴰ.{cases_cons}
use Prim.Native.Nat.{ℕ, ◌≤◌, ◌<◌}
use native.Mathlib.Omega.{arith}
use lib.Dec.{T, ltb, leb, eqb, eqb→eq, leb→le, ltb→lt, le→leb, lt→ltb}
use Rattle.book.specs.Choose.{choose}
use Rattle.book.proofs.Choosing.{choose_case, choose_yes, choose_no, and_left, and_right, and_both}
use Rattle.book.proofs.Lists.{or_left, or_right, or_cases, eq→eqb, ne→neqb, neqb→ne}
use Rattle.tree_layout.specs.Values.{Element, Mark, Region, Tree}
use Rattle.tree_layout.specs.Refusal.{between, all, element_ok, comes, rises_from, list_rises, list_ok, mark_ok, children_ok, region_ok, values_ok}
use Rattle.tree_layout.specs.Facts.{Before, RisingFrom, Rising, RegionValues}

-- ---- a test over a list

pub all-mem : {A : Type 0} (f : A → Bool) (xs : List A) → T (all f xs) → (x : A) → Mem x xs → T (f x)
unfolding all
all-mem f [] t x k = absurd (not-nil k)
all-mem f (y ∷ ys) t x k = go (cases_cons k) (λ j. all-mem f ys (and_right (f y) (all f ys) t) x j)
  where
    go : (x ≡ y) ⊎ Mem x ys → (Mem x ys → T (f x)) → T (f x)
    go (inl e) rec = rw e (and_left (f y) (all f ys) t)
    go (inr j) rec = rec j

pub all_intro : {A : Type 0} (f : A → Bool) (xs : List A) → ((x : A) → Mem x xs → T (f x)) → T (all f xs)
unfolding all
all_intro f [] h = tt
all_intro f (x ∷ xs) h = and_both (f x) (all f xs) (h x (head refl)) (all_intro f xs (λ y k. h y (tail k)))

-- ---- a number between two

pub between_both : (low high x : ℕ) → T (between low high x) → (low ≤ x) × (x ≤ high)
unfolding between
between_both low high x t = (leb→le low x (and_left (leb low x) (leb x high) t), leb→le x high (and_right (leb low x) (leb x high) t))

pub both_between : (low high x : ℕ) → (low ≤ x) × (x ≤ high) → T (between low high x)
unfolding between
both_between low high x h = and_both (leb low x) (leb x high) (le→leb low x h.0) (le→leb x high h.1)

-- ---- a leaf's list

pub comes_by : (e g : Element) → comes e g ≡ (ltb e.distance g.distance || (eqb e.distance g.distance && ltb e.yard g.yard))
unfolding comes
comes_by e g = refl

pub comes_before : (e g : Element) → T (comes e g) → Before e g
unfolding comes
comes_before e g t = go (or_cases (ltb e.distance g.distance) _ t)
  where
    go : T (ltb e.distance g.distance) ⊎ T (eqb e.distance g.distance && ltb e.yard g.yard) → Before e g
    go (inl s) = inl (ltb→lt e.distance g.distance s)
    go (inr s) = inr (
      eqb→eq e.distance g.distance (and_left (eqb e.distance g.distance) _ s),
      ltb→lt e.yard g.yard (and_right (eqb e.distance g.distance) _ s),
    )

pub before_comes : (e g : Element) → Before e g → T (comes e g)
unfolding comes
before_comes e g (inl h) = or_left (ltb e.distance g.distance) _ (lt→ltb e.distance g.distance h)
before_comes e g (inr h) = or_right (ltb e.distance g.distance) _ (and_both (eqb e.distance g.distance) _ (eq→eqb e.distance g.distance h.0) (lt→ltb e.yard g.yard h.1))

from-rising : (e : Element) (es : List Element) → T (rises_from e es) → RisingFrom e es
unfolding rises_from
from-rising e [] t = tt
from-rising e (g ∷ gs) t = (comes_before e g (and_left (comes e g) _ t), from-rising g gs (and_right (comes e g) _ t))

rising-from : (e : Element) (es : List Element) → RisingFrom e es → T (rises_from e es)
unfolding rises_from
rising-from e [] r = tt
rising-from e (g ∷ gs) r = and_both (comes e g) _ (before_comes e g r.0) (rising-from g gs r.1)

pub rises_rising : (es : List Element) → T (list_rises es) → Rising es
unfolding list_rises
rises_rising [] t = tt
rises_rising (e ∷ es) t = from-rising e es t

pub rising_rises : (es : List Element) → Rising es → T (list_rises es)
unfolding list_rises
rising_rises [] r = tt
rising_rises (e ∷ es) r = rising-from e es r

-- ---- a landmark

-- what the test of a landmark says
record MarkValues (r : Region) (m : Mark) : Type 0 where
  pub placed : (r.first ≤ m.place) × (m.place < r.after)
  pub near-all : r.children ≡ 0 → (e : Element) → Mem e m.list → e.distance ≤ 67042305
  pub kinded-all : r.children ≡ 0 → (e : Element) → Mem e m.list → 1 ≤ e.kinds
  pub rising : r.children ≡ 0 → Rising m.list
  pub span : 0 < r.children → m.least ≤ m.greatest

mark_values : (r : Region) (m : Mark) → T (mark_ok r m) → MarkValues r m
unfolding mark_ok list_ok element_ok
mark_values r m t = record {
  placed = (leb→le r.first m.place (and_left (leb r.first m.place) _ t), ltb→lt m.place r.after (and_left (ltb m.place r.after) _ t1));
  near-all = λ c e k. leb→le e.distance 67042305 (and_left (leb e.distance 67042305) _ (each c e k));
  kinded-all = λ c e k. leb→le 1 e.kinds (and_right (leb e.distance 67042305) _ (each c e k));
  rising = λ c. rises_rising m.list (and_right (all element_ok m.list) _ (list c));
  span = λ h. leb→le m.least m.greatest (rw (choose_no (eqb r.children 0) (list_ok m.list) (leb m.least m.greatest) (ne→neqb r.children 0
      (omega arith))) at t2);
}
  where
    t1 : T (ltb m.place r.after && choose (eqb r.children 0) (list_ok m.list) (leb m.least m.greatest))
    t1 = and_right (leb r.first m.place) _ t

    t2 : T (choose (eqb r.children 0) (list_ok m.list) (leb m.least m.greatest))
    t2 = and_right (ltb m.place r.after) _ t1

    list : r.children ≡ 0 → T (all element_ok m.list && list_rises m.list)
    list c = rw (choose_yes (eqb r.children 0) (list_ok m.list) (leb m.least m.greatest) (eq→eqb r.children 0 c)) at t2

    each : r.children ≡ 0 → (e : Element) → Mem e m.list → T (leb e.distance 67042305 && leb 1 e.kinds)
    each c e k = all-mem element_ok m.list (and_left (all element_ok m.list) _ (list c)) e k

values_mark : (r : Region) (m : Mark) → MarkValues r m → T (mark_ok r m)
unfolding mark_ok list_ok element_ok
values_mark r m v =
    and_both (leb r.first m.place) _ (le→leb r.first m.place v.placed.0)
    (and_both (ltb m.place r.after) _ (lt→ltb m.place r.after v.placed.1)
    (choose_case (λ (b : Bool). T b) (eqb r.children 0)
    (λ t. let c = eqb→eq r.children 0 t in
    and_both (all element_ok m.list) (list_rises m.list) (all_intro element_ok m.list (λ e k. each c e k)) (rising_rises m.list (v.rising c)))
    (λ t. le→leb m.least m.greatest (v.span (omega (arith, neqb→ne r.children 0 t))))))
  where
    each : r.children ≡ 0 → (e : Element) → Mem e m.list → T (leb e.distance 67042305 && leb 1 e.kinds)
    each c e k =
        and_both (leb e.distance 67042305) (leb 1 e.kinds) (le→leb e.distance 67042305 (v.near-all c e k)) (le→leb 1 e.kinds (v.kinded-all c e k))

-- ---- a region

kind_of_lem : (c : ℕ) → T (children_ok c) → (c ≡ 0) ⊎ ((2 ≤ c) × (c ≤ 4))
unfolding children_ok
kind_of_lem c t = go (or_cases (eqb c 0) (between 2 4 c) t)
  where
    go : T (eqb c 0) ⊎ T (between 2 4 c) → (c ≡ 0) ⊎ ((2 ≤ c) × (c ≤ 4))
    go (inl s) = inl (eqb→eq c 0 s)
    go (inr s) = inr (between_both 2 4 c s)

of_kind : (c : ℕ) → (c ≡ 0) ⊎ ((2 ≤ c) × (c ≤ 4)) → T (children_ok c)
unfolding children_ok
of_kind c (inl e) = or_left (eqb c 0) _ (eq→eqb c 0 e)
of_kind c (inr h) = or_right (eqb c 0) _ (both_between 2 4 c h)

pub region_values : (j : ℕ) (r : Region) → T (region_ok j r) → RegionValues j r
unfolding region_ok
region_values j r t = record {
  range = ltb→lt r.first r.after (and_left (ltb r.first r.after) _ t);
  within = leb→le r.after j (and_left (leb r.after j) _ t1);
  kind = kind_of_lem r.children (and_left (children_ok r.children) _ t2);
  some = leb→le 1 r.yards (and_left (leb 1 r.yards) _ t3);
  placed = λ m k. (marks m k).placed;
  near = λ c m k. (marks m k).near-all c;
  rising = λ c m k. (marks m k).rising c;
  kinds = leb→le 1 r.kinds (and_left (leb 1 r.kinds) _ t4);
  kinded = λ c m k. (marks m k).kinded-all c;
  span = λ h m k. (marks m k).span h;
}
  where
    t1 : T (leb r.after j && (children_ok r.children && (leb 1 r.yards && (leb 1 r.kinds && all (mark_ok r) r.marks))))
    t1 = and_right (ltb r.first r.after) _ t

    t2 : T (children_ok r.children && (leb 1 r.yards && (leb 1 r.kinds && all (mark_ok r) r.marks)))
    t2 = and_right (leb r.after j) _ t1

    t3 : T (leb 1 r.yards && (leb 1 r.kinds && all (mark_ok r) r.marks))
    t3 = and_right (children_ok r.children) _ t2

    t4 : T (leb 1 r.kinds && all (mark_ok r) r.marks)
    t4 = and_right (leb 1 r.yards) _ t3

    marks : (m : Mark) → Mem m r.marks → MarkValues r m
    marks m k = mark_values r m (all-mem (mark_ok r) r.marks (and_right (leb 1 r.kinds) _ t4) m k)

pub values_region : (j : ℕ) (r : Region) → RegionValues j r → T (region_ok j r)
unfolding region_ok
values_region j r v =
    and_both (ltb r.first r.after) _ (lt→ltb r.first r.after v.range)
    (and_both (leb r.after j) _ (le→leb r.after j v.within)
    (and_both (children_ok r.children) _ (of_kind r.children v.kind)
    (and_both (leb 1 r.yards) _ (le→leb 1 r.yards v.some)
    (and_both (leb 1 r.kinds) _ (le→leb 1 r.kinds v.kinds)
    (all_intro (mark_ok r) r.marks (λ m k. values_mark r m (record {
      placed = v.placed m k;
      near-all = λ c. v.near c m k;
      kinded-all = λ c. v.kinded c m k;
      rising = λ c. v.rising c m k;
      span = λ h. v.span h m k;
    })))))))

-- ---- test 5

pub all-values : (t : Tree) → T (values_ok t) → (r : Region) → Mem r t.regions → RegionValues t.junctions r
unfolding values_ok
all-values t v r k = region_values t.junctions r (all-mem (region_ok t.junctions) t.regions v r k)

pub values-all : (t : Tree) → ((r : Region) → Mem r t.regions → RegionValues t.junctions r) → T (values_ok t)
unfolding values_ok
values-all t f = all_intro (region_ok t.junctions) t.regions (λ r k. values_region t.junctions r (f r k))
