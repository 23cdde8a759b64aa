-- A yard is measured by a least way for each crew, one after the other, until one is above the ceiling. The run, and
-- what it promises. Assumes nothing: these are definitions and statements.
use Rattle.std.specs.Prelude.{◌≡◌, ℕ, max, ◌≤◌, ◌<◌}
use Rattle.std.proofs.Math.Option.{Option, some}
use mathlib.Core.List.{List, [], ◌∷◌, Memᴰ as Mem}
use Rattle.road_layout.specs.Road.{junctions}
use Rattle.adjacency.specs.Arcs.{net}
use Rattle.road.specs.Walk.{Least}
use Rattle.road.specs.Facts.{Passing}
use Rattle.search_rules.specs.Bounds.{combine}
use Rattle.search_rules.specs.Ceiling.{Measured, exact, measured_by}
use Rattle.search_rules.specs.Ceiling
use Rattle.search_rules.specs.Walks.{AggregateLeast, FurthestLeast}
use Rattle.search_measure.specs.Way.{Walked, Stand, budget, Ended, reached, above, least_way, way_answer}

-- what a crew's way answers is above, or its seconds go on
abbrev pub onward : {A : Type 0} → Ended → A → (ℕ → A) → A
onward above stop on = stop
onward (reached t) stop on = on t

module _ (road : List ℕ) (code : ℕ) (ceiling : Option ℕ) (yard : ℕ) where
  -- the crews that are left, where those before come to these numbers
  unfoldable pub measure_from : (total furthest : ℕ) → List ℕ → Measured
  measure_from total furthest [] = exact total furthest
  measure_from total furthest (q ∷ qs) =
      onward (way_answer road (budget code total ceiling) q yard) Ceiling.above (λ t. measure_from (combine code total t) (max furthest t) qs)

  -- the walks of the same run, as they end
  unfoldable pub ways_from : (total : ℕ) → List ℕ → List Stand
  ways_from total [] = []
  ways_from total (q ∷ qs) =
      least_way road (budget code total ceiling) q yard ∷ onward (way_answer road (budget code total ceiling) q yard) [] (λ t. ways_from (combine code total t) qs)

-- what measuring a yard answers, and its walks
unfoldable pub measure_yard : (road : List ℕ) (code : ℕ) (crews : List ℕ) (ceiling : Option ℕ) (yard : ℕ) → Measured
measure_yard road code crews ceiling yard = measure_from road code ceiling yard 0 0 crews

unfoldable pub yard_ways : (road : List ℕ) (code : ℕ) (crews : List ℕ) (ceiling : Option ℕ) (yard : ℕ) → List Stand
yard_ways road code crews ceiling yard = ways_from road code ceiling yard 0 crews

-- of an answer, and of the walks as they end
pub record Measures (road : List ℕ) (code : ℕ) (crews : List ℕ) (ceiling : Option ℕ) (yard : ℕ) (answer : Measured)
    (walks : List Stand) : Type 0 where
  -- "either the true aggregate or "above", which it gives exactly when the aggregate exceeds the ceiling"; with the
  -- aggregate the distance of the furthest crew
  pub answers : (t m : ℕ) → AggregateLeast (net road) code yard crews t → FurthestLeast (net road) yard crews m
      → answer ≡ measured_by ceiling t m
  -- "Each of its walks keeps in its state the junctions it has walked on from, and none of them is further than the
  -- ceiling along that walk."
  pub within : (seconds : ℕ) → ceiling ≡ some seconds → (s : Stand) → Mem s walks → (m : Walked) → Mem m s.behind
      → m.seconds ≤ seconds
  -- their seconds are the least from there to the yard
  pub least : (s : Stand) → Mem s walks → (m : Walked) → Mem m s.behind → Least (net road) m.junction yard m.seconds

-- in a road book that passes, of crews and a yard at its junctions, whatever the ceiling
abbrev pub MeasuresTrue : Type 0
MeasuresTrue = (road : List ℕ) → Passing road → (code : ℕ) (crews : List ℕ)
    → ((q : ℕ) → Mem q crews → q < junctions road) → (ceiling : Option ℕ) (yard : ℕ) → yard < junctions road
    → Measures road code crews ceiling yard (measure_yard road code crews ceiling yard)
    (yard_ways road code crews ceiling yard)
