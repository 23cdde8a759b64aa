-- A region's bound and the landmark that a leaf picks, by the landmark table's rows. Assumes nothing: these are
-- definitions.
use mathlib.Core.List.{List, Memᴰ as Mem}
use Rattle.std.specs.Prelude.{ℕ, zero, suc, ◌≤◌, ◌<◌, length, get_or, ltb}
use Rattle.book.specs.Choose.{choose}
use Rattle.tree_layout.specs.Values.{Mark}
use Rattle.search_rules.specs.Bounds.{aggregate, greatest_of, crew_bound}
use Rattle.tree_layout.specs.Values.{no_mark}
use Rattle.search_bounds.specs.code.Rows.{rows_lower, rows_upper}

-- "the crew's bound": of crew q for landmark k
unfoldable pub rows_mark : List ℕ → ℕ → ℕ → Mark → ℕ
rows_mark table rows q k = crew_bound (rows_lower table rows k.place q) (rows_upper table rows k.place q) k.least
    k.greatest

-- "The greatest over the region's landmarks is taken": for crew q
unfoldable pub rows_crew : List ℕ → ℕ → List Mark → ℕ → ℕ
rows_crew table rows ks q = greatest_of (rows_mark table rows q) ks

-- "then the aggregate over crews"
unfoldable pub rows_bound : List ℕ → ℕ → ℕ → List ℕ → List Mark → ℕ
rows_bound table rows code crews ks = aggregate code (rows_crew table rows ks) crews

-- the "sum of LB over crews" of a landmark at junction l
unfoldable pub rows_weight : List ℕ → ℕ → List ℕ → ℕ → ℕ
rows_weight table rows crews l = aggregate 0 (rows_lower table rows l) crews

-- that of landmark j of a region
unfoldable pub mark_weight : List ℕ → ℕ → List ℕ → List Mark → ℕ → ℕ
mark_weight table rows crews ks j = rows_weight table rows crews (get_or ks j no_mark).place

-- the place of the greatest of the first n of some numbers, "ties to the first"
unfoldable pub first_greatest : (ℕ → ℕ) → ℕ → ℕ
first_greatest w zero = 0
first_greatest w (suc n) = let p = first_greatest w n in choose (ltb (w p) (w n)) n p

-- "its landmark with greatest sum of LB over crews, ties to the first": its number in the region
unfoldable pub rows_chosen : List ℕ → ℕ → List ℕ → List Mark → ℕ
rows_chosen table rows crews ks = first_greatest (mark_weight table rows crews ks) (length ks)

-- the crews' junctions: at most sixteen, each with a place in the landmark table's rows
pub record Crews (crews : List ℕ) : Type 0 where
  pub few : length crews ≤ 16
  pub there : (q : ℕ) → Mem q crews → q < 1024
