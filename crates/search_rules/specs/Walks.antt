-- Aggregates by the walks' own definition of distance, and what a settled list has by it. Assumes nothing: these are
-- statements.
use Rattle.std.specs.Prelude.{◌≡◌, ◌⊎◌, ℕ, min, ◌≤◌, length}
use mathlib.Core.List.{List, [], ◌∷◌, map, Memᴰ as Mem}
use Rattle.book.specs.Lists.{Distinct}
use Rattle.adjacency.specs.Arcs.{Arc}
use Rattle.road.specs.Walk.{Least}
use Rattle.search_rules.specs.Order.{Entry, YardBefore}
use Rattle.search_rules.specs.Bounds.{combine}
use Rattle.search_rules.specs.Theorems.{SortedBy, OutBy}

-- a number is the aggregate over crews of the least totals of walks from each to junction y
pub data AggregateLeast (arcs : List Arc) (code y : ℕ) : List ℕ → ℕ → Type 0 where
  none : AggregateLeast arcs code y [] 0
  more : {q t s : ℕ} {qs : List ℕ} → Least arcs q y t → AggregateLeast arcs code y qs s
      → AggregateLeast arcs code y (q ∷ qs) (combine code t s)

-- "the furthest crew": a number is the greatest of these totals (code 1 is the maximum's)
abbrev pub FurthestLeast : (arcs : List Arc) → (y : ℕ) → (crews : List ℕ) → ℕ → Type 0
FurthestLeast arcs y crews n = AggregateLeast arcs 1 y crews n

-- a yard has its true aggregate and the true distance of its furthest crew
pub record TrueEntry (arcs : List Arc) (code : ℕ) (crews : List ℕ) (e : Entry) : Type 0 where
  pub total : AggregateLeast arcs code e.yard crews e.distance
  pub furthest : FurthestLeast arcs e.yard crews e.furthest

-- the first k of some yards in some order, each with its true numbers, or all if fewer
pub record FirstBy (before : Entry → Entry → Type 0) (arcs : List Arc) (code k : ℕ) (crews ys : List ℕ)
    (list : List Entry) : Type 0 where
  pub sorted : SortedBy before list
  pub entries : (e : Entry) → Mem e list → TrueEntry arcs code crews e
  pub yards : (e : Entry) → Mem e list → Mem e.yard ys
  pub number : length list ≡ min k (length ys)
  -- "no yard left out comes before one listed": a yard with its numbers is listed, or k are listed and it comes after
  -- every one of them
  pub rest : (h : Entry) → Mem h.yard ys → TrueEntry arcs code crews h → Mem h list ⊎ OutBy before k list h

-- "exactly the tree's yards within the drive", each once, in some order, each with its true numbers
pub record DriveBy (before : Entry → Entry → Type 0) (arcs : List Arc) (code seconds : ℕ) (crews ys : List ℕ)
    (list : List Entry) : Type 0 where
  pub sorted : SortedBy before list
  pub entries : (e : Entry) → Mem e list → TrueEntry arcs code crews e
  pub yards : (e : Entry) → Mem e list → Mem e.yard ys
  pub once : Distinct (map (λ (e : Entry). e.yard) list)
  pub inside : (e : Entry) → Mem e list → e.distance ≤ seconds
  -- a yard with its numbers, if its aggregate is at most the seconds, is listed
  pub every : (h : Entry) → Mem h.yard ys → TrueEntry arcs code crews h → h.distance ≤ seconds → Mem h list

-- "the first k .. by aggregate least distance", then the distance of the furthest crew, "and then junction number, each
-- with that distance"
abbrev pub FirstYards : (arcs : List Arc) → (code k : ℕ) → (crews ys : List ℕ) → (list : List Entry) → Type 0
FirstYards arcs code k crews ys list = FirstBy YardBefore arcs code k crews ys list

-- and those within the drive, in the same order
abbrev pub DriveYards : (arcs : List Arc) → (code seconds : ℕ) → (crews ys : List ℕ) → (list : List Entry) → Type 0
DriveYards arcs code seconds crews ys list = DriveBy YardBefore arcs code seconds crews ys list
