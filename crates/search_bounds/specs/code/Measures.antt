-- What is computed of a yard, by the crews' junctions and the distances to them. Assumes nothing: these are
-- definitions.
use mathlib.Core.List.{List, [], ◌∷◌, Memᴰ as Mem}
use Rattle.std.specs.Prelude.{ℕ, zero, suc, ◌≤◌, ◌<◌, max, length, get_or}
use Rattle.road_layout.specs.Road.{junctions}
use Rattle.road.specs.Dijkstra.{dist}
use Rattle.road.specs.Facts.{Passing}
use Rattle.road.specs.code.Rows.{Rowed}
use Rattle.search_rules.specs.Bounds.{abs_diff, combine, aggregate}
use Rattle.search_bounds.specs.code.Rows.{rows_lower}

-- the longest that a least walk can be: 1,023 roads of 65,535 seconds
abbrev pub longest : ℕ
longest = 67042305

-- some distances are no longer
abbrev pub Short : List ℕ → Type 0
Short ds = (x : ℕ) → Mem x ds → x ≤ longest

-- at most sixteen crews, at junctions of a road book that passes, with a row of distances for each
pub record Driven (road crews drives : List ℕ) : Type 0 where
  pub roads : Passing road
  pub few : length crews ≤ 16
  pub there : (q : ℕ) → Mem q crews → q < junctions road
  pub rows : Rowed road crews drives

-- beside some road book, which has junction v
pub record IsDriven (crews drives : List ℕ) (v : ℕ) : Type 0 where
  pub road : List ℕ
  pub driven : Driven road crews drives
  pub junction : v < junctions road

-- d(l, q) for each crew q
unfoldable pub to_crews : List ℕ → ℕ → List ℕ → List ℕ
to_crews road l [] = []
to_crews road l (q ∷ qs) = dist road l q ∷ to_crews road l qs

-- "f, the aggregate of |d(l, q) − d(l, p)| with the list's d(l, p)": out has d(l, q) for each crew q
unfoldable pub f_by : ℕ → List ℕ → ℕ → ℕ
f_by code out distance = aggregate code (λ x. abs_diff x distance) out

-- "per crew the greatest of these differences over the sheet's landmarks and l (for l with the list's distance)": of
-- crew number j
unfoldable pub crew_abs_diff : List ℕ → ℕ → List ℕ → List ℕ → ℕ → ℕ → ℕ → ℕ
crew_abs_diff table rows crews out yard distance j = max (rows_lower table rows yard (get_or crews j 0)) (abs_diff (get_or out
    j 0)
    distance)

-- "A yard's bound takes [these], then aggregates.": over the first j crews
unfoldable pub yard_bound_by : ℕ → List ℕ → ℕ → List ℕ → List ℕ → ℕ → ℕ → ℕ → ℕ
yard_bound_by code table rows crews out yard distance zero = 0
yard_bound_by code table rows crews out yard distance (suc j) =
    combine code (yard_bound_by code table rows crews out yard distance j) (crew_abs_diff table rows crews out yard distance
    j)
