-- The ceiling, the budget and the answer as the code has them, and what a walk needs. Assumes nothing: these are
-- definitions.
use Rattle.std.specs.Prelude.{◌≡◌, ◌≢◌, List, map, ℕ, ◌<◌, length, get_or, take, Option as Given, Some, None}
use Rattle.std.proofs.Math.Option.{Option, none, some}
use Rattle.road_layout.specs.Road.{junctions}
use Rattle.adjacency.specs.Adjacency.{count_in, Adjacency}
use Rattle.road.specs.Dijkstra.{dist}
use Rattle.road.specs.Facts.{Passing}
use Rattle.search_rules.specs.Bounds.{aggregate}
use Rattle.search_rules.specs.Ceiling as rules
use Rattle.search_bounds.specs.code.Measures.{Driven}
use Rattle.search_measure.specs.Way.{Walked, Stand, Budget, budget, Ended, reached, above}
use Rattle.search_measure.specs.declared.Arrival.{Arrival}
use Rattle.search_measure.specs.declared.Numbers.{Numbers}

-- the definition's ceiling
abbrev pub ceiling_of : Given ℕ → Option ℕ
ceiling_of None = none
ceiling_of (Some s) = some s

-- the definition's budget
abbrev pub budget_of : ℕ → ℕ → Given ℕ → Budget
budget_of code spent ceiling = budget code spent (ceiling_of ceiling)

-- the definition's answer, by the seconds after which the crew is reached, if it is
abbrev pub ended_in : Given ℕ → Ended
ended_in None = above
ended_in (Some seconds) = reached seconds

abbrev pub ended_of : Arrival → Ended
ended_of a = ended_in a.seconds

-- of how many junctions the array has the numbers
abbrev pub count_of : Arrival → ℕ
count_of a = a.count

-- the most that the aggregate of the crews before may be: of fifteen least walks of 1,023 roads of 65,535 seconds
abbrev pub most_spent : ℕ
most_spent = 1005634575

-- an array is the adjacency of a road book that passes, and a row has the distances from a crew at one of its junctions
pub record Steers (road adj row : List ℕ) (crew : ℕ) : Type 0 where
  pub roads : Passing road
  pub adjacent : Adjacency road adj
  pub junction : crew < junctions road
  pub told : (v : ℕ) → v < junctions road → get_or row v 0 ≡ dist road crew v

-- of some road book
pub record IsSteered (adj row : List ℕ) (crew : ℕ) : Type 0 where
  pub road : List ℕ
  pub steers : Steers road adj row crew

-- and v is another junction than the crew's
pub record IsApart (adj row : List ℕ) (v : ℕ) : Type 0 where
  pub crew : ℕ
  pub steered : IsSteered adj row crew
  pub inside : v < count_in adj
  pub apart : v ≢ crew

-- the array's first words are the junctions walked on from, and the answer says how many
pub record Written (s : Stand) (count : ℕ) (walked : List ℕ) : Type 0 where
  pub number : count ≡ length s.behind
  pub junctions : take count walked ≡ map (λ (m : Walked). m.junction) s.behind

-- what measuring answers, as the definition has it
abbrev pub measured_of : Given Numbers → rules.Measured
measured_of (Some numbers) = rules.exact numbers.total numbers.furthest
measured_of None = rules.above

-- each crew has its row beside a road book that passes, an array is its adjacency, and a yard is at one of its junctions
pub record Measurable (road adj crews rows : List ℕ) (yard : ℕ) : Type 0 where
  pub driven : Driven road crews rows
  pub adjacent : Adjacency road adj
  pub junction : yard < junctions road

-- of some road book
pub record IsMeasurable (adj crews rows : List ℕ) (yard : ℕ) : Type 0 where
  pub road : List ℕ
  pub measurable : Measurable road adj crews rows yard

-- a yard's aggregate: of the true distance d(q, p) from each crew q to yard p
unfoldable pub total_of : List ℕ → ℕ → List ℕ → ℕ → ℕ
total_of road code crews p = aggregate code (λ q. dist road q p) crews

-- the distance of its furthest crew: the greatest of these (code 1 is the maximum's)
unfoldable pub furthest_of : List ℕ → List ℕ → ℕ → ℕ
furthest_of road crews p = aggregate 1 (λ q. dist road q p) crews
