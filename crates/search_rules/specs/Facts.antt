-- What is asked of an instance: the tree's shape, the limits of its numbers, the laws of the distance, and the truth of
-- the tree's numbers. The layers below provide them. Assumes nothing: these are statements.
use Rattle.std.specs.Prelude.{◌≡◌, ◌⊎◌, ◌≢◌, ◌↔◌, not, ℕ, ◌+◌, ◌≤◌, ◌<◌, length, T}
use mathlib.Core.List.{[], Memᴰ as Mem}
use Rattle.tree_layout.specs.Values.{Element, Mark}
use Rattle.book.specs.Lists.{Distinct}
use Rattle.tree_leaf.specs.Leaf.{yards_in}
use Rattle.tree.specs.Yards.{children_of, on_way}
use Rattle.search_rules.specs.Instance.{Instance, size, children, marks, leaf}
use Rattle.search_rules.specs.Bounds.{first_mark}

-- yard y stands in landmark m's list
pub record Listed (m : Mark) (y : ℕ) : Type 0 where
  pub element : Element
  pub mem : Mem element m.list
  pub names : element.yard ≡ y

-- y is a wanted yard below region r, and all regions on the way to it may enter the queue: a leaf's lists name it, or
-- it is below a child
pub data Below (i : Instance) : ℕ → ℕ → Type 0 where
  inside : {r y : ℕ} (m : Mark) → T (i.admits r) → T (leaf i r) → Mem m (marks i r) → Listed m y → T (i.wants y)
      → Below i r y
  under : {r y : ℕ} (c : ℕ) → T (i.admits r) → T (not (leaf i r)) → Mem c (children i r) → Below i c y → Below i r y

-- y is a yard below region r, wanted or not: a leaf's lists name it, or it is below a child
pub data Holds (i : Instance) : ℕ → ℕ → Type 0 where
  listed : {r y : ℕ} (m : Mark) → T (leaf i r) → Mem m (marks i r) → Listed m y → Holds i r y
  child's : {r y : ℕ} (c : ℕ) → T (not (leaf i r)) → Mem c (children_of i.tree.regions r) → Holds i c y
      → Holds i r y

-- The tree's shape. A region of no number has neither children nor landmarks.
pub record Shape (i : Instance) : Type 0 where
  -- there is a root, and the numbers of a region's children are above its own
  pub root : 0 < size i
  pub rise : (r c : ℕ) → Mem c (children i r) → r < c
  pub range : (r c : ℕ) → Mem c (children i r) → c < size i
  -- no region is a child of two
  pub parent : (r s c : ℕ) → Mem c (children i r) → Mem c (children i s) → r ≡ s
  -- on the way to a child are the child and what is on the way to its region
  pub own_way : (r : ℕ) → r < size i → T (on_way i.tree.regions r r)
  pub child_way : (r c s : ℕ) → Mem c (children i r)
      → T (on_way i.tree.regions s c) ↔ ((s ≡ c) ⊎ T (on_way i.tree.regions s r))
  -- every region has a landmark, and a landmark is a junction
  pub marked : (r : ℕ) → r < size i → marks i r ≢ []
  pub places : (r : ℕ) (m : Mark) → Mem m (marks i r) → m.place < i.tree.junctions
  -- a leaf's lists name the same yards, at least one, each once; they are junctions; no yard is in two leaves
  pub alike : (r : ℕ) (m n : Mark) (y : ℕ) → T (leaf i r) → Mem m (marks i r) → Mem n (marks i r) → Listed m y
      → Listed n y
  pub some-yard : (r : ℕ) (m : Mark) → T (leaf i r) → Mem m (marks i r) → m.list ≢ []
  pub yards : (r : ℕ) (m : Mark) (e : Element) → T (leaf i r) → Mem m (marks i r) → Mem e m.list
      → e.yard < i.tree.junctions
  pub once-listed : (r : ℕ) (m : Mark) (e g : Element) → T (leaf i r) → Mem m (marks i r) → Mem e m.list
      → Mem g m.list → e.yard ≡ g.yard → e ≡ g
  pub distinct-listed : (r : ℕ) (m : Mark) → T (leaf i r) → Mem m (marks i r) → Distinct (yards_in m.list)
  pub one-leaf : (r s : ℕ) (m n : Mark) (y : ℕ) → T (leaf i r) → T (leaf i s) → Mem m (marks i r)
      → Mem n (marks i s) → Listed m y → Listed n y → r ≡ s
  -- a landmark towards which distances lead is a junction
  pub returns : (r : ℕ) (m : Mark) → Mem m (i.towards r) → m.place < i.tree.junctions
  -- a crew stands at a junction
  pub crews : (q : ℕ) → Mem q i.crews → q < i.tree.junctions

-- The limits of numbers: of distances, true and stored, and of an inner region's least, which "may be any u32"; "crews
-- u8 (1 to 16)".
pub record Small (i : Instance) : Type 0 where
  pub distances : (u v : ℕ) → u < i.tree.junctions → v < i.tree.junctions → i.d u v ≤ 67042305
  pub lists : (r : ℕ) (m : Mark) (e : Element) → T (leaf i r) → Mem m (marks i r) → Mem e m.list
      → e.distance ≤ 67042305
  pub least : (r : ℕ) (m : Mark) → Mem m (marks i r) → m.least ≤ 4294967295
  pub few-crews : length i.crews ≤ 16

-- what holds of every tree, road and query that the tests accept, whatever the tree's numbers say
pub record WellFormed (i : Instance) : Type 0 where
  pub shape : Shape i
  pub small : Small i

-- the law of the distance between junctions that one-way roads keep
pub record Triangle (i : Instance) : Type 0 where
  pub triangle : (u v w : ℕ) → u < i.tree.junctions → v < i.tree.junctions → w < i.tree.junctions
      → i.d u w ≤ i.d u v + i.d v w

-- "A road runs both ways": the distance there is the distance back
pub record Symmetric (i : Instance) : Type 0 where
  pub turn : (u v : ℕ) → u < i.tree.junctions → v < i.tree.junctions → i.d u v ≡ i.d v u

-- The tree's numbers are true: a list's distances are those from its landmark, a landmark's least and greatest enclose
-- those to the yards below its region, and a region may enter the queue exactly if it holds a wanted yard.
pub record Truth (i : Instance) : Type 0 where
  pub lists : (r : ℕ) (m : Mark) (e : Element) → T (leaf i r) → Mem m (marks i r) → Mem e m.list
      → e.distance ≡ i.d m.place e.yard
  pub least : (r : ℕ) (m : Mark) (y : ℕ) → Mem m (marks i r) → Below i r y → m.least ≤ i.d m.place y
  pub greatest : (r : ℕ) (m : Mark) (y : ℕ) → Mem m (marks i r) → Below i r y → i.d m.place y ≤ m.greatest
  -- of a tree with both directions also the distances towards a landmark
  pub backs : T i.one_way → (r : ℕ) (e : Element) → r < size i → T (leaf i r) → Mem e (first_mark (marks i r)).list
      → i.back e.yard ≡ i.d e.yard (first_mark (marks i r)).place
  pub furthest : (r : ℕ) (m : Mark) (y : ℕ) → Mem m (i.towards r) → Below i r y → i.d y m.place ≤ m.greatest
  pub admitted : (r y : ℕ) → Holds i r y → T (i.wants y) → T (i.admits r)
  pub wanted : (r : ℕ) → r < size i → T (i.admits r) → (y : ℕ) × Holds i r y × T (i.wants y)

-- all of it: what holds of a tree that check accepts
pub record SoundInstance (i : Instance) : Type 0 where
  pub well : WellFormed i
  pub metric : Triangle i
  -- where roads have a direction, this is not asked
  pub symmetric : T (not i.one_way) → Symmetric i
  pub truth : Truth i
