-- What is proved of the search. Assumes nothing: these are statements.
use Rattle.std.specs.Prelude.{◌≡◌, ◌⊎◌, Bool, false, not, ◌&&◌, ◌||◌, ℕ, zero, suc, ◌+◌, ◌*◌, ◌≤◌, ◌<◌, max, length, T}
use mathlib.Core.List.{List, [], ◌∷◌, Memᴰ as Mem}
use Rattle.book.specs.Choose.{choose}
use Rattle.book.specs.Lists.{Distinct}
use Rattle.tree_layout.specs.Values.{Element, Mark}
use Rattle.tree.specs.Yards.{inners}
use Rattle.search_rules.specs.Rule.{Rule, nearest, in_drive}
use Rattle.search_rules.specs.Instance.{Instance, size, children, marks, leaf}
use Rattle.search_rules.specs.Bounds.{lower, upper, bound, total, furthest, weight, chosen, f, yard_bound}
use Rattle.search_rules.specs.Keys.{first_key, yard_key}
use Rattle.search_rules.specs.Queue.{unqueued, word_at}
use Rattle.search_rules.specs.Order.{Entry, YardBefore}
use Rattle.search_rules.specs.Held.{greatest_held, entry, ranked}
use Rattle.search_rules.specs.Keeping.{front}
use Rattle.search_rules.specs.Step.{SearchState, settled}
use Rattle.search_rules.specs.Run.{run}
use Rattle.search_rules.specs.Facts.{Below}

-- ---- lists of yards

-- in some order each element comes before all that follow it
abbrev pub SortedBy : (Entry → Entry → Type 0) → List Entry → Type 0
SortedBy before [] = Unit {0}
SortedBy before (h ∷ hs) = ((g : Entry) → Mem g hs → before h g) × SortedBy before hs

-- a yard is left out of the first k in some order: they are k, and it comes after every one of them
pub record OutBy (before : Entry → Entry → Type 0) (k : ℕ) (first : List Entry) (h : Entry) : Type 0 where
  pub full : length first ≡ k
  pub after : (g : Entry) → Mem g first → before g h

-- both in yard order
abbrev pub Sorted : List Entry → Type 0
Sorted l = SortedBy YardBefore l

abbrev pub Out : ℕ → List Entry → Entry → Type 0
Out k first h = OutBy YardBefore k first h

-- a yard is left out by a rule: of the first k as above, of a drive because it is further than the seconds
abbrev pub LeftOut : Rule → List Entry → Entry → Type 0
LeftOut (nearest k) list h = Out k list h
LeftOut (in_drive seconds) list h = seconds < h.distance

-- a list has no more than a rule asks for: no more than k yards, or none further than the seconds
abbrev pub Allowed : Rule → List Entry → Type 0
Allowed (nearest k) list = length list ≤ k
Allowed (in_drive seconds) list = (h : Entry) → Mem h list → h.distance ≤ seconds

-- a number is not past what ends a search: the last distance of a full list, or the seconds
abbrev pub NotPast : Rule → List Entry → ℕ → Type 0
NotPast (nearest k) list a = length list ≡ k → a ≤ greatest_held list
NotPast (in_drive seconds) list a = a ≤ seconds

-- ys are the wanted yards that may be reached, each once
pub record TreeYards (i : Instance) (ys : List ℕ) : Type 0 where
  pub distinct : Distinct ys
  pub below : (y : ℕ) → Mem y ys → Below i 0 y
  pub every : (y : ℕ) → Below i 0 y → Mem y ys

-- ys have every wanted yard that may be reached
abbrev pub Covers : Instance → List ℕ → Type 0
Covers i ys = (y : ℕ) → Below i 0 y → Mem y ys

-- some element of a list is wanted
unfoldable pub any_wanted : Instance → List Element → Bool
any_wanted i [] = false
any_wanted i (e ∷ es) = i.wants e.yard || any_wanted i es

-- leaf r may enter the queue and has no wanted yard: it is taken once and queues nothing
unfoldable pub barren : Instance → ℕ → Bool
barren i r = i.admits r && (leaf i r && not (any_wanted i (chosen i r).list))

-- how many such leaves are among n regions from number r on, and among all
unfoldable pub barren_from : Instance → ℕ → ℕ → ℕ
barren_from i zero r = 0
barren_from i (suc n) r = choose (barren i r) 1 0 + barren_from i n (suc r)

unfoldable pub barrens : Instance → ℕ
barrens i = barren_from i (size i) 0

-- steps that settle a search in which such yards are wanted: inner regions, leaves that are taken in vain, and twice the
-- yards; "regions plus yards" on a version 3 tree
unfoldable pub allowance : Instance → List ℕ → ℕ
allowance i ys = choose i.one_way (size i + length ys) (inners i.tree + barrens i + 2 * length ys)

-- what holds of a list of yards whatever the tree's numbers say: "with true distances, distinct yards and yard order,
-- but a yard may be left out"
pub record Listing (i : Instance) (list : List Entry) : Type 0 where
  pub sorted : Sorted list
  pub distances : (h : Entry) → Mem h list → h.distance ≡ total i h.yard
  pub furthests : (h : Entry) → Mem h list → h.furthest ≡ furthest i h.yard
  pub distinct : (h g : Entry) → Mem h list → Mem g list → h.yard ≡ g.yard → h ≡ g
  pub in_tree : (h : Entry) → Mem h list → Below i 0 h.yard
  pub allowed : Allowed i.rule list
  -- the greatest distance is the last one's
  pub greatest : (h : Entry) → Mem h list → h.distance ≤ greatest_held list

-- the list has what the rule asks for of the tree's yards, in yard order: the first k, or all if there are fewer; or
-- all within the seconds
pub record Complete (i : Instance) (list : List Entry) : Type 0 where
  -- a yard of the tree is listed, or the rule leaves it out
  pub rest : (y : ℕ) → Below i 0 y → Mem (entry i y) list ⊎ LeftOut i.rule list (entry i y)
  -- as an equation
  pub exact : (ys : List ℕ) → TreeYards i ys → list ≡ front i.rule (ranked i ys)

-- ---- keys

-- what a run's keys are, whatever the tree's numbers say: values of the tree, the roads and the query
pub record KeysOf (i : Instance) : Type 0 where
  -- the root's first key is its bound; "A region's key is the greater of this and its parent's key."
  pub root : first_key i 0 ≡ bound i 0
  pub child : (r c : ℕ) → Mem c (children i r) → first_key i c ≡ max (bound i c) (first_key i r)
  -- a yard's key is that of its element in the list of the landmark that its leaf picks
  pub yard : (r : ℕ) (e : Element) → r < size i → T (leaf i r) → Mem e (chosen i r).list
      → yard_key i e.yard ≡ max (yard_bound i (chosen i r) e) (first_key i r)
  -- with these a run queues a region for the first time, and a yard
  pub regions : (steps r : ℕ) → word_at (run i steps).state.firsts r < unqueued
      → word_at (run i steps).state.firsts r ≡ first_key i r
  pub yards : (steps y : ℕ) → word_at (run i steps).state.yard_keys y < unqueued
      → word_at (run i steps).state.yard_keys y ≡ yard_key i y

-- what is queued has a key of at most a number
pub record KeysFit (most : ℕ) (st : SearchState) : Type 0 where
  pub regions : (v : ℕ) → word_at st.region_keys v < unqueued → word_at st.region_keys v ≤ most
  pub yards : (v : ℕ) → word_at st.yard_keys v < unqueued → word_at st.yard_keys v ≤ most
  pub firsts : (v : ℕ) → word_at st.firsts v < unqueued → word_at st.firsts v ≤ most

-- the numbers that a search computes, whatever the tree's numbers say
pub record Limited (i : Instance) : Type 0 where
  pub lowers : (l q : ℕ) → l < i.tree.junctions → q < i.tree.junctions → lower i l q ≤ 67042305
  pub uppers : (l q : ℕ) → l < i.tree.junctions → q < i.tree.junctions → upper i l q ≤ 134084610
  pub bounds : (r : ℕ) → bound i r ≤ 68719476720
  pub weights : (r : ℕ) (m : Mark) → Mem m (marks i r) → weight i m ≤ 1072676880
  pub fs : (r : ℕ) (m : Mark) (e : Element) → T (leaf i r) → Mem m (marks i r) → Mem e m.list → f i m e ≤ 1072676880
  pub yard_bounds : (r : ℕ) (m : Mark) (e : Element) → T (leaf i r) → Mem m (marks i r) → Mem e m.list
      → yard_bound i m e ≤ 1072676880
  pub totals : (y : ℕ) → y < i.tree.junctions → total i y ≤ 1072676880

-- ---- the theorems

-- the bounds of a true tree
pub record Bounded (i : Instance) : Type 0 where
  pub of_region : (r y : ℕ) → Below i r y → bound i r ≤ total i y
  pub of_element : T (not i.one_way) → (m : Mark) (e : Element) → f i m e ≤ yard_bound i m e
  pub of_yard : (r : ℕ) (e : Element) → r < size i → T (leaf i r) → Mem e (chosen i r).list
      → yard_bound i (chosen i r) e ≤ total i e.yard
  -- no region's bound is above that of a wanted yard below it, so that the yard's key is its bound
  pub of_key : (r : ℕ) (e : Element) → r < size i → T (leaf i r) → Mem e (chosen i r).list → Below i 0 e.yard
      → yard_key i e.yard ≡ yard_bound i (chosen i r) e

-- of any search on a tree of sound layout and shape, whatever the tree's numbers say
pub record Decided (i : Instance) (limit : ℕ) : Type 0 where
  pub listing : Listing i (run i limit).state.held
  -- the held yards are what the rule asks for of the measured yards, of which none is measured twice, and each is a
  -- yard of the tree
  pub held : (run i limit).state.held ≡ front i.rule (ranked i (run i limit).state.measured)
  pub measured-once : Distinct (run i limit).state.measured
  pub measured_in : (y : ℕ) → Mem y (run i limit).state.measured → Below i 0 y
  pub measured-few : (ys : List ℕ) → Covers i ys → length (run i limit).state.measured ≤ length ys
  -- "It is spent exactly if the limit's number of steps was taken and it isn't settled."
  pub spent : T (not (settled i (run i limit).state)) → (run i limit).taken ≡ limit
  pub within : (run i limit).taken ≤ limit
  -- a settled search stays as it is under a greater limit
  pub stays : T (settled i (run i limit).state) → (more : ℕ) → run i (limit + more) ≡ run i limit
  -- inner regions, leaves that are taken in vain, and twice the yards are enough
  pub ends : (ys : List ℕ) → Covers i ys → allowance i ys ≤ limit → T (settled i (run i limit).state)
  -- "Regions and yards without a wanted bit never enter the queue": a queued region may enter it, and a queued yard is a
  -- wanted one that the search reaches
  pub queued-regions : (r : ℕ) → word_at (run i limit).state.region_keys r < unqueued → T (i.admits r)
  pub queued-yards : (y : ℕ) → word_at (run i limit).state.yard_keys y < unqueued → Below i 0 y
  -- no key is above sixteen times a u32
  pub fits : KeysFit 68719476720 (run i limit).state

-- of a settled search on a true tree
pub record Right (i : Instance) (limit : ℕ) : Type 0 where
  pub complete : Complete i (run i limit).state.held
  -- measured are exactly the wanted yards whose key is not past what ends the search: if k are held, the last held
  -- distance; of a drive the seconds
  pub key_within : (y : ℕ) → Mem y (run i limit).state.measured
      → NotPast i.rule (run i limit).state.held (yard_key i y)
  pub key_measured : (y : ℕ) → Below i 0 y → NotPast i.rule (run i limit).state.held (yard_key i y)
      → Mem y (run i limit).state.measured
  -- nor is a measured yard's bound
  pub bound-within : (r : ℕ) (e : Element) → T (leaf i r) → r < size i
      → Mem e (chosen i r).list → Mem e.yard (run i limit).state.measured
      → NotPast i.rule (run i limit).state.held (yard_bound i (chosen i r) e)
