-- The tree of a book that the tests accept has the shape that the search asks for, its yards are those below the root, and its numbers are small. Assumes
-- nothing.
use mathlib.Core.Path.{◌≡◌, refl, ap}
use mathlib.Core.Logic.{◌⊎◌, inl, inr, ◌≢◌}
use mathlib.Core.Bool.{true, not}
use mathlib.Core.List.Memᴰ.{head}
use mathlib.Core.List.Memᴰ.{not-nil}
use mathlib.Core.List.{List, [], ◌∷◌, Memᴰ as Mem}
use Prim.Native.Nat.{ℕ, zero, suc, ◌+◌, ◌≤◌, ◌<◌}
use native.Mathlib.Decide.{ℕ_discrete, dec_lt}
use native.Mathlib.Omega.{arith}
use lib.ListN.{length}
use lib.Dec.{T, eqb, eqb→eq}
use Rattle.book.specs.Bytes.{Bytes}
use Rattle.book.specs.Lists.{keep_if}
use Rattle.book.proofs.Choosing.{T-split}
use Rattle.book.proofs.Lists.{neqb→ne, kept_from, kept_in}
use Rattle.tree_layout.specs.Values.{Element, Mark, Region, Tree, region_at}
use Rattle.tree_layout.specs.Decode.{decode}
use Rattle.tree_layout.specs.Facts.{RegionValues}
use Rattle.tree_layout.specs.code.Formed.{FormedTree}
use Rattle.tree_layout.proofs.Formed.{decode-formed, at_mem}
use Rattle.tree_layout.proofs.Places.{decode-length, decode-junctions, decode-yards, decode-landmarks}
use Rattle.tree_layout.proofs.Leasts.{least-small, first_of, leaf-least, marks_out}
use Rattle.tree.specs.Shape.{tree_refusal}
use Rattle.tree_leaf.specs.Leaf.{yards_in}
use Rattle.tree.specs.Yards.{children_of, yards_below, tree_yards}
use Rattle.tree.specs.Theorems.{Whole}
use Rattle.tree_leaf.proofs.Named.{yards_of_lem, yards-from, once-listed}
use Rattle.tree.proofs.Members.{gather-mem, gather-from, no_children}
use Rattle.tree.proofs.Siblings.{starts_none, children_are}
use Rattle.tree.proofs.Theorems.{tree-facts, accepted-whole}
use Rattle.search_rules.specs.Instance.{Instance, size, children, marks, leaf}
use Rattle.search_rules.specs.Bounds.{first_mark, chosen}
use Rattle.search_rules.specs.Facts.{Listed, Below, inside, under, Holds, listed, child's, Shape, Small, WellFormed, Truth}
use Rattle.search_rules.specs.Theorems.{Covers}
use Rattle.search_rules.proofs.Bounds.{below-wanted, chosen-mem}

-- what the tests give of a tree
pub record Accepted (t : Tree) : Type 0 where
  pub whole : Whole t
  pub there : 1 ≤ length t.regions
  pub few-regions : length t.regions ≤ 511
  pub few-junctions : t.junctions ≤ 1024
  pub few-yards : t.yards ≤ 256
  pub landmarks : 1 ≤ t.landmarks
  pub formed : FormedTree t
  pub values : (r : Region) → Mem r t.regions → RegionValues t.junctions r
  pub least : (r : ℕ) → r < length t.regions → 0 < (region_at t.regions r).children → (m : Mark) → Mem m (region_at t.regions r).marks
      → m.least < 4294967296

pub accepted-tree : (b : List ℕ) → Bytes b → tree_refusal b ≡ 0 → Accepted (decode b)
accepted-tree b bytes e = let l = (tree-facts b e).layout in record {
  whole = accepted-whole b e;
  there = rw (decode-length b) l.regions.0;
  few-regions = rw (decode-length b) l.regions.1;
  few-junctions = rw (decode-junctions b) l.junctions.1;
  few-yards = rw (decode-yards b) l.yards.1;
  landmarks = rw (decode-landmarks b) l.landmarks.0;
  formed = decode-formed b;
  values = rw (decode-junctions b) l.values;
  least = λ r h. least-small b bytes r (rw (← decode-length b) h);
}

-- the tree's kinds are true: a region may enter the queue exactly if a yard below it is wanted
pub record TrueKinds (i : Instance) : Type 0 where
  pub admitted : (r y : ℕ) → r < length i.tree.regions → Mem y (yards_below i.tree.regions r) → T (i.wants y) → T (i.admits r)
  pub wanted : (r : ℕ) → r < length i.tree.regions → T (i.admits r) → (y : ℕ) × Mem y (yards_below i.tree.regions r) × T (i.wants y)

-- a list that isn't empty
not_empty : {A : Type 0} (l : List A) → 1 ≤ length l → l ≢ []
not_empty l h e = let z : length l ≡ 0 = ap length e in absurd (omega arith)

-- a child that may enter the queue is a child
child_of : (i : Instance) (r c : ℕ) → Mem c (children i r) → Mem c (children_of i.tree.regions r)
unfolding children
child_of i r c k = (kept_from i.admits (children_of i.tree.regions r) c k).0

-- what may be reached below a region is held by it
pub below_holds : {i : Instance} {r y : ℕ} → Below i r y → Holds i r y
below_holds (inside m a l k x w) = listed m l k x
below_holds {i} (under {r = r} c a l k b) = child's c l (child_of i r c k) (below_holds b)

module _ (i : Instance) (a : Accepted i.tree) where
  abbrev rs : List Region
  rs = i.tree.regions

  at : (r : ℕ) → r < length rs → RegionValues i.tree.junctions (region_at rs r)
  at r h = a.values (region_at rs r) (at_mem rs r h)

  -- what has a child or a landmark is a region
  child-range : (r c : ℕ) → Mem c (children_of rs r) → r < length rs
  child-range r c k = go (dec_lt r (length rs))
    where
      go : Dec (r < length rs) → r < length rs
      go (yes h) = h
      go (no h) = absurd (not-nil (rw (no_children rs r (omega arith)) at k))

  mark_range : (r : ℕ) (m : Mark) → Mem m (marks i r) → r < length rs
  unfolding marks
  mark_range r m k = go (dec_lt r (length rs))
    where
      go : Dec (r < length rs) → r < length rs
      go (yes h) = h
      go (no h) = absurd (not-nil (rw (marks_out rs r (omega arith)) at k))

  -- what has a child is inner
  has-child : (r c : ℕ) → Mem c (children_of rs r) → 0 < (region_at rs r).children
  has-child r c k = go (dec_lt 0 (region_at rs r).children)
    where
      go : Dec (0 < (region_at rs r).children) → 0 < (region_at rs r).children
      go (yes h) = h
      go (no h) = let z : (region_at rs r).children ≡ 0 = omega arith in absurd (not-nil (rw (children_are rs r, z, starts_none) at k))

  leaf-zero : (r : ℕ) → T (leaf i r) → (region_at rs r).children ≡ 0
  unfolding leaf
  leaf-zero r t = eqb→eq (region_at rs r).children 0 t

  inner-more : (r : ℕ) → T (not (leaf i r)) → 0 < (region_at rs r).children
  unfolding leaf
  inner-more r t = omega (arith, neqb→ne (region_at rs r).children 0 t)

  -- ---- a leaf's lists

  listed-yard : (m : Mark) (y : ℕ) → Listed m y → Mem y (yards_in m.list)
  listed-yard m y l = rw l.names at (yards_of_lem m.list l.element l.mem)

  yard-listed : (m : Mark) (y : ℕ) → Mem y (yards_in m.list) → Listed m y
  yard-listed m y k = let x = yards-from m.list y k in record { element = x.0; mem = x.1; names = x.2 }

  module _ (r : ℕ) (m : Mark) (l : T (leaf i r)) (k : Mem m (marks i r)) where
    abbrev h : r < length rs
    h = mark_range r m k

    mark_at : Mem m (region_at rs r).marks
    unfolding marks
    mark_at = k

    -- y is below the leaf exactly if a list of it names y
    into : (y : ℕ) → Listed m y → Mem y (yards_below rs r)
    into y x = (a.whole.holdings.listed r h (leaf-zero r l) m mark_at y).1 (listed-yard m y x)

    from : (y : ℕ) → Mem y (yards_below rs r) → Listed m y
    from y x = yard-listed m y ((a.whole.holdings.listed r h (leaf-zero r l) m mark_at y).0 x)

    list-some : m.list ≢ []
    list-some = not_empty m.list (omega (arith, (at r h).some, ((a.formed (region_at rs r) (at_mem rs r h)).lists (leaf-zero r l) m mark_at).1))

    element-below : (e : Element) → Mem e m.list → Mem e.yard (yards_below rs r)
    element-below e j = into e.yard (record { element = e; mem = j; names = refl })

    leaf-least-small : m.least ≤ 67042305
    leaf-least-small =
        let x = first_of m.list list-some in
        let e = leaf-least m ((a.formed (region_at rs r) (at_mem rs r h)).lists (leaf-zero r l) m mark_at).0 in
        omega (arith, e, x.2, (at r h).near (leaf-zero r l) m mark_at x.0 x.1)

  first_mark_lem : (r : ℕ) → r < length rs → (m : Mark) × Mem m (marks i r)
  unfolding marks
  first_mark_lem r h = go (region_at rs r).marks (omega (arith, a.landmarks, (a.formed (region_at rs r) (at_mem rs r h)).count))
    where
      go : (ms : List Mark) → 1 ≤ length ms → (m : Mark) × Mem m ms
      go [] h = absurd (omega arith)
      go (m ∷ ms) h = (m, head refl)

  -- ---- the yards below a region, by the search's own words and by the tree's

  pub holds-range : {r y : ℕ} → Holds i r y → r < length rs
  holds-range (listed {r = r} m l k x) = mark_range r m k
  holds-range (child's {r = r} c l k b) = child-range r c k

  pub holds-mem : {r y : ℕ} → Holds i r y → Mem y (yards_below rs r)
  holds-mem (listed {r = r} {y = y} m l k x) = into r m l k y x
  holds-mem (child's {r = r} {y = y} c l k b) = rw (a.whole.holdings.joined r (child-range r c k) (inner-more r l)) (gather-mem (yards_below rs) (children_of rs
      r) c y k (holds-mem b))

  mem-holds_in : (n r y : ℕ) → length rs ≤ r + n → r < length rs → Mem y (yards_below rs r) → Holds i r y
  mem-holds_in zero r y s h k = absurd (omega arith)
  mem-holds_in (suc n) r y s h k = go (T-split (leaf i r)) (λ c q p j. mem-holds_in n c y (omega arith) q j)
    where
      go : T (leaf i r) ⊎ T (not (leaf i r)) → ((c : ℕ) → c < length rs → r < c → Mem y (yards_below rs c) → Holds i c y) → Holds i r y
      go (inl l) rec = let m = first_mark_lem r h in listed m.0 l m.1 (from r m.0 l m.1 y k)
      go (inr l) rec =
          let x = gather-from (yards_below rs) (children_of rs r) y (rw (a.whole.holdings.joined r h (inner-more r l)) at k) in
          let z = a.whole.regions.above r x.0 h x.1 in
          child's x.0 l x.1 (rec x.0 z.1 z.0 x.2)

  pub mem-holds : (r y : ℕ) → r < length rs → Mem y (yards_below rs r) → Holds i r y
  mem-holds r y h k = mem-holds_in (length rs) r y (omega arith) h k

  -- the tree's yards are those that the root holds
  pub tree-holds : (y : ℕ) → Mem y (tree_yards i.tree) → Holds i 0 y
  tree-holds y k = mem-holds 0 y a.there (rw a.whole.yards at k)

  pub holds-tree : (y : ℕ) → Holds i 0 y → Mem y (tree_yards i.tree)
  holds-tree y b = rw a.whole.yards (holds-mem b)

  -- a yard below any region is the tree's
  pub below-tree : (r y : ℕ) → r < length rs → Mem y (yards_below rs r) → Mem y (tree_yards i.tree)
  below-tree r y h k = rw a.whole.yards (up (suc r) r (omega arith) h k)
    where
      up : (n r : ℕ) → r < n → r < length rs → Mem y (yards_below rs r) → Mem y (yards_below rs 0)
      up zero r s h k = absurd (omega arith)
      up (suc n) r s h k = go (ℕ_discrete r 0) (λ q p t j. up n q p t j)
        where
          go : Dec (r ≡ 0) → ((q : ℕ) → q < n → q < length rs → Mem y (yards_below rs q) → Mem y (yards_below rs 0)) → Mem y (yards_below rs 0)
          go (yes e) rec = rw e at k
          go (no e) rec =
              let x = a.whole.regions.parent r h e in
              let z = a.whole.regions.above x.0 r x.1 x.2 in
              rec x.0 (omega (arith, z.0)) x.1 (rw (a.whole.holdings.joined x.0 x.1 (has-child x.0 r x.2))
              (gather-mem (yards_below rs) (children_of rs x.0) r y x.2 k))

  -- a leaf's chosen list has a yard, and each of its yards is below the leaf; no yard is below two leaves
  module _ (r : ℕ) (l : T (leaf i r)) (h : r < size i) where
    chosen_of : Mem (chosen i r) (marks i r)
    unfolding size
    chosen_of = chosen-mem i r (λ e. let x = first_mark_lem r h in not-nil (rw e at x.1))

    pub leaf-some : 0 < length (chosen i r).list
    leaf-some = positive (chosen i r).list (list-some r (chosen i r) l chosen_of)
      where
        positive : (es : List Element) → es ≢ [] → 0 < length es
        positive [] n = absurd (n refl)
        positive (e ∷ es) n = omega arith

    pub leaf-yard : (e : Element) → Mem e (chosen i r).list → Mem e.yard (yards_below rs r)
    leaf-yard e j = element-below r (chosen i r) l chosen_of e j

  pub leaf-one : (y r s : ℕ) → T (leaf i r) → T (leaf i s) → r < size i → s < size i → Mem y (yards_below rs r) → Mem y (yards_below rs s) → r ≡ s
  unfolding size
  leaf-one y r s l t h g k j = a.whole.one-leaf y r s (record { number = h; leaf = leaf-zero r l; holds = k })
      (record { number = g; leaf = leaf-zero s t; holds = j })

  -- every wanted yard that may be reached is a wanted one of the tree's
  pub tree_covers : Covers i (keep_if i.wants (tree_yards i.tree))
  tree_covers y b = kept_in i.wants (tree_yards i.tree) y (holds-tree y (below_holds b)) (below-wanted i b)

  -- ---- shape

  pub shape_of : ((q : ℕ) → Mem q i.crews → q < i.tree.junctions) → ((r : ℕ) (m : Mark) → Mem m (i.towards r) → m.place < i.tree.junctions) → Shape i
  unfolding size marks
  shape_of crews returns = record {
    distinct-listed = λ r m l k. a.whole.holdings.listed-once r (mark_range r m k) (leaf-zero r l) m k;
    returns = returns;
    root = a.there;
    rise = λ r c k. (above r c (child_of i r c k)).0;
    range = λ r c k. (above r c (child_of i r c k)).1;
    parent = λ r s c k j. parent r s c (child_of i r c k) (child_of i s c j);
    own_way = a.whole.regions.own_way;
    child_way = λ r c s k. let j = child_of i r c k in a.whole.regions.child_way r c s (child-range r c j) j;
    marked = λ r h. not_empty (region_at rs r).marks (omega (arith, a.landmarks, (a.formed (region_at rs r) (at_mem rs r h)).count));
    places = λ r m k. let h = mark_range r m k in omega (arith, ((at r h).placed m k).1, (at r h).within);
    alike = λ r m n y l k j x. from r n l j y (into r m l k y x);
    some-yard = λ r m l k. list-some r m l k;
    yards = λ r m e l k j. let h = mark_range r m k in omega (arith, (a.whole.holdings.inside r e.yard h (element-below r m l k e j)).1, (at r h).within);
    once-listed = λ r m e g l k j x p. once-listed m.list (a.whole.holdings.listed-once r (mark_range r m k) (leaf-zero r l) m k) e g j x p;
    one-leaf = λ r s m n y l t k j x z. a.whole.one-leaf y r s
        (record { number = mark_range r m k; leaf = leaf-zero r l; holds = into r m l k y x }) (record {
          number = mark_range s n j;
          leaf = leaf-zero s t;
          holds = into s n t j y z;
        });
    crews = crews;
  }
    where
      above : (r c : ℕ) → Mem c (children_of rs r) → (r < c) × (c < length rs)
      above r c k = a.whole.regions.above r c (child-range r c k) k

      parent : (r s c : ℕ) → Mem c (children_of rs r) → Mem c (children_of rs s) → r ≡ s
      parent r s c k j = a.whole.regions.one_parent r s c (child-range r c k) (child-range s c j) k j

  pub small_of : ((u v : ℕ) → u < i.tree.junctions → v < i.tree.junctions → i.d u v ≤ 67042305) → length i.crews ≤ 16 → Small i
  unfolding marks
  small_of near few = record {
    distances = near;
    lists = λ r m e l k j. (at r (mark_range r m k)).near (leaf-zero r l) m k e j;
    least = λ r m k. leasts r m k (T-split (leaf i r));
    few-crews = few;
  }
    where
      leasts : (r : ℕ) (m : Mark) → Mem m (region_at rs r).marks → T (leaf i r) ⊎ T (not (leaf i r)) → m.least ≤ 4294967295
      leasts r m k (inl l) = omega (arith, leaf-least-small r m l k)
      leasts r m k (inr l) = omega (arith, a.least r (mark_range r m k) (inner-more r l) m k)

-- a search of an accepted tree, whose crews stand at its junctions and whose distances are within the limit, is well formed
pub well-formed : (i : Instance) → Accepted i.tree → ((q : ℕ) → Mem q i.crews → q < i.tree.junctions) → length i.crews ≤ 16
    → ((u v : ℕ) → u < i.tree.junctions → v < i.tree.junctions → i.d u v ≤ 67042305)
    → ((r : ℕ) (m : Mark) → Mem m (i.towards r) → m.place < i.tree.junctions) → WellFormed i
well-formed i a crews few near returns = record { shape = shape_of i a crews returns; small = small_of i a near few }

-- its numbers are true if its lists' distances are, each landmark's least and greatest enclose the distances to the yards below its region, and a region may
-- enter the queue exactly if a yard below it is wanted
pub truth_of : (i : Instance) → Accepted i.tree
    → ((r : ℕ) → r < length i.tree.regions → (region_at i.tree.regions r).children ≡ 0 → (m : Mark) → Mem m (region_at i.tree.regions r).marks
    → (e : Element) → Mem e m.list
    → e.distance ≡ i.d m.place e.yard)
    → ((r : ℕ) → r < length i.tree.regions → (m : Mark) → Mem m (region_at i.tree.regions r).marks → (y : ℕ) → Mem y (yards_below i.tree.regions r)
    → (m.least ≤ i.d m.place y) × (i.d m.place y ≤ m.greatest))
    → TrueKinds i
    → (T i.one_way → (r : ℕ) (e : Element) → r < length i.tree.regions → (region_at i.tree.regions r).children ≡ 0
    → Mem e (first_mark (region_at i.tree.regions r).marks).list → i.back e.yard ≡ i.d e.yard (first_mark (region_at i.tree.regions r).marks).place)
    → ((r : ℕ) (m : Mark) (y : ℕ) → Mem m (i.towards r) → Mem y (yards_below i.tree.regions r) → i.d y m.place ≤ m.greatest)
    → Truth i
unfolding marks size
truth_of i a lists encloses kinds backs furthest = record {
  backs = λ one r e h l k. backs one r e h (leaf-zero i a r l) k;
  furthest = λ r m y k b. furthest r m y k (holds-mem i a (below_holds b));
  lists = λ r m e l k j. lists r (mark_range i a r m k) (leaf-zero i a r l) m k e j;
  least = λ r m y k b. (encloses r (mark_range i a r m k) m k y (holds-mem i a (below_holds b))).0;
  greatest = λ r m y k b. (encloses r (mark_range i a r m k) m k y (holds-mem i a (below_holds b))).1;
  admitted = λ r y b w. kinds.admitted r y (holds-range i a b) (holds-mem i a b) w;
  wanted = λ r h t. let x = kinds.wanted r h t in (x.0, mem-holds i a r x.0 h x.1, x.2);
}
