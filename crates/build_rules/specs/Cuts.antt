-- "Building", sentence by sentence, as a relation between what is given, a range of junctions with its yards, and
-- regions. Nothing here cuts or walks: what is built is held against it. Assumes nothing: these are definitions.
use Rattle.std.specs.Prelude.{◌≡◌, ◌⊎◌, ◌↔◌, ℕ, suc, ◌+◌, ◌-◌, ◌*◌, ◌/◌, ◌≤◌, ◌<◌, length, get_or}
use mathlib.Core.List.{List, [], ◌∷◌, ◌++◌, Memᴰ as Mem}
use Rattle.book.specs.Lists.{Distinct}
use Rattle.kinds.specs.Facts.{BitsOf}
use Rattle.road_layout.specs.Road.{Road}
use Rattle.tree_layout.specs.Values.{Element, Mark, Region, leaf_mark, inner_mark, no_mark}
use Rattle.tree_layout.specs.Facts.{Rising}
use Rattle.tree_leaf.specs.Leaf.{yards_in}
use Rattle.check_rules.specs.Truth.{within}
use Rattle.check_rules.specs.Extremes.{LeastOf, GreatestOf}

-- "Given m (1 to 4) and a leaf limit (1 to 256).", the roads, which number is the distance d(u, v), and which byte is
-- that of a yard's kinds
pub record Terms : Type 1 where
  pub roads : List Road
  pub Distance : (u v t : ℕ) → Type 0
  pub Kinds : (y k : ℕ) → Type 0
  pub landmarks : ℕ
  pub limit : ℕ

-- ---- landmarks

-- v is a junction of "A range starting at a with s junctions"
abbrev pub OfRange : (a s v : ℕ) → Type 0
OfRange a s v = (a ≤ v) × (v < a + s)

-- a road between u and v: "A road runs both ways."
abbrev pub Joins : (r : Road) (u v : ℕ) → Type 0
Joins r u v = ((r.low ≡ u) × (r.high ≡ v)) ⊎ ((r.low ≡ v) × (r.high ≡ u))

-- "Border junctions (with a road out of the range)"
pub record IsBorder (roads : List Road) (a s v : ℕ) : Type 0 where
  pub inner : OfRange a s v
  pub other : ℕ
  pub outer : OfRange a s other → ⊥
  pub road : Road
  pub listed : Mem road roads
  pub joins : Joins road v other

-- "Border junctions .. in rising order": all of them, and no other
pub record Borders (roads : List Road) (a s : ℕ) (bs : List ℕ) : Type 0 where
  pub exact : (v : ℕ) → Mem v bs ↔ IsBorder roads a s v
  pub rising : (i j : ℕ) → i < j → j < length bs → get_or bs i 0 < get_or bs j 0

-- "c of them, give landmark j, .., as number floor(j × c / m) of them, counted from 0; with c = 0 it is junction
-- a + floor(j × s / m)"
pub record IsLandmark (m a s : ℕ) (bs : List ℕ) (j l : ℕ) : Type 0 where
  pub of_borders : 0 < length bs → l ≡ get_or bs (j * length bs / m) 0
  pub of_range : length bs ≡ 0 → l ≡ a + j * s / m

-- a region's landmarks, "j, from 0 to m − 1"
pub record Landmarks (g : Terms) (a s : ℕ) (ks : List Mark) : Type 0 where
  pub borders : List ℕ
  pub exact : Borders g.roads a s borders
  pub count : length ks ≡ g.landmarks
  pub each : (j : ℕ) → j < g.landmarks → IsLandmark g.landmarks a s borders j (get_or ks j no_mark).place

-- ---- a region's record

-- a leaf's list of landmark l: "one pair (distance u32, yard u16) per yard, rising strictly by distance and then yard";
-- "a yard's kind byte after each of its list entries"
pub record ListOf (g : Terms) (ys : List ℕ) (l : ℕ) (es : List Element) : Type 0 where
  pub named : (y : ℕ) → Mem y (yards_in es) ↔ Mem y ys
  pub once : Distinct (yards_in es)
  pub measured : (e : Element) → Mem e es → g.Distance l e.yard e.distance
  pub kinded : (e : Element) → Mem e es → g.Kinds e.yard e.kinds
  pub rising : Rising es

-- "per landmark its junction u16 and, in a leaf," its list
pub record LeafLandmark (g : Terms) (ys : List ℕ) (k : Mark) : Type 0 where
  pub form : k ≡ leaf_mark k.place k.list
  pub pairs : ListOf g ys k.place k.list

-- "in an inner region, least and greatest distance to its yards"
pub record InnerLandmark (g : Terms) (ys : List ℕ) (k : Mark) : Type 0 where
  pub form : k ≡ inner_mark k.place k.least k.greatest
  pub lowest : LeastOf (λ y. Mem y ys) (g.Distance k.place) k.least
  pub highest : GreatestOf (λ y. Mem y ys) (g.Distance k.place) k.greatest

-- the record of a range with its yards and q children; `Fits` is what holds of each landmark
pub record RecordOf (g : Terms) (a s q : ℕ) (ys : List ℕ) (Fits : Mark → Type 0) (r : Region) : Type 0 where
  -- "first junction u16, junction after the last u16, children u8 (0 for a leaf, ..), yards u16"
  pub starts : r.first ≡ a
  pub ends : r.after ≡ a + s
  pub parts : r.children ≡ q
  pub holds : r.yards ≡ length ys
  -- "a bit is set exactly if some yard in that region has it"
  pub bits : BitsOf (λ y. Mem y ys) g.Kinds r.kinds
  -- "then per landmark .."
  pub placed : Landmarks g a s r.marks
  pub each : (k : Mark) → Mem k r.marks → Fits k

-- ---- cuts

-- part i of a range, "cut at a + floor(i × s / 4), i from 0 to 4": from junction low up to, not including, high
pub record IsPart (a s i low high : ℕ) : Type 0 where
  pub number : i < 4
  pub starts : low ≡ a + i * s / 4
  pub ends : high ≡ a + suc i * s / 4

mutual
  -- the regions, in preorder, of the range from a with s junctions and the yards ys
  pub data CutRange (g : Terms) : (a s : ℕ) (ys : List ℕ) (rs : List Region) → Type 0 where
    -- "A range starting at a with s junctions is a leaf if it has no more yards than the limit."
    leaf : {a s : ℕ} {ys : List ℕ} {r : Region} → length ys ≤ g.limit → RecordOf g a s 0 ys (LeafLandmark g ys) r
        → CutRange g a s ys (r ∷ [])
    -- "Otherwise it is cut": into parts of which one has yards; "a region with one child is replaced by the child,
    -- whose range and landmarks stay"
    replaced : {a s : ℕ} {ys : List ℕ} {rs : List Region} → g.limit < length ys → CutParts g a s ys 0 1 rs
        → CutRange g a s ys rs
    -- or into parts of which two or more have yards: its record, and the regions of its children
    inner : {a s q : ℕ} {ys : List ℕ} {r : Region} {rs : List Region} → g.limit < length ys → 2 ≤ q
        → CutParts g a s ys 0 q rs → RecordOf g a s q ys (InnerLandmark g ys) r → CutRange g a s ys (r ∷ rs)

  -- the regions of the parts from number i on, of which q have yards
  pub data CutParts (g : Terms) : (a s : ℕ) (ys : List ℕ) (i q : ℕ) (rs : List Region) → Type 0 where
    -- there are four parts
    end : {a s i : ℕ} {ys : List ℕ} → i ≡ 4 → CutParts g a s ys i 0 []
    -- "Parts without yards are dropped"
    dropped : {a s i q low high : ℕ} {ys : List ℕ} {rs : List Region} → IsPart a s i low high
        → length (within low high ys) ≡ 0 → CutParts g a s ys (suc i) q rs → CutParts g a s ys i q rs
    -- each other part is a range of its own
    kept : {a s i q low high : ℕ} {ys : List ℕ} {rs ss : List Region} → IsPart a s i low high
        → 0 < length (within low high ys) → CutRange g low (high - low) (within low high ys) rs
        → CutParts g a s ys (suc i) q ss → CutParts g a s ys i (suc q) (rs ++ ss)
