-- A crew's least way to a yard, walked back from the yard: at each junction along the arc by which a least walk from
-- the crew comes to it, as the crew's row tells. The walk's state, one step, and its run. Assumes nothing: these are
-- definitions.
use Rattle.std.specs.Prelude.{Bool, ◌&&◌, ◌||◌, List, [], ◌∷◌, ◌++◌, ℕ, zero, suc, ◌+◌, eqb}
use Rattle.std.proofs.Math.Option.{Option}
use Rattle.book.specs.Choose.{choose}
use Rattle.road_layout.specs.Road.{junctions}
use Rattle.adjacency.specs.Arcs.{Arc, net}
use Rattle.road.specs.Dijkstra.{dist}
use Rattle.search_rules.specs.Bounds.{combine}
use Rattle.search_rules.specs.Ceiling.{exceeds}

-- ---- the arc that is taken

-- an arc leads into v, and by it the row's number at v is had from that at the arc's other end
unfoldable pub comes_by : (row : ℕ → ℕ) (v : ℕ) → Arc → Bool
comes_by row v a = eqb a.to v && eqb (row a.from + a.seconds) (row v)

-- no arc at all: where it stands, it stays
abbrev pub no_arc : ℕ → Arc
no_arc v = record { from = v; to = v; seconds = 0 }

-- the first arc of a list that does so
unfoldable pub came_by : (row : ℕ → ℕ) (v : ℕ) → List Arc → Arc
came_by row v [] = no_arc v
came_by row v (a ∷ arcs) = let later = came_by row v arcs in choose (comes_by row v a) a later

-- ---- the walk's state

-- a junction walked on from, and how many seconds of the walk led to it
pub record Walked : Type 0 where
  pub junction : ℕ
  pub seconds : ℕ

-- where the walk stands, its seconds so far, and what it has walked on from, the yard first
pub record Stand : Type 0 where
  pub place : ℕ
  pub seconds : ℕ
  pub behind : List Walked

abbrev pub start_at : ℕ → Stand
start_at yard = record { place = yard; seconds = 0; behind = [] }

-- where it stands, as a junction walked on from
abbrev pub here : Stand → Walked
here s = record { junction = s.place; seconds = s.seconds }

-- walk on: back along the arc that is taken
unfoldable pub walk_back : (arcs : List Arc) (row : ℕ → ℕ) → Stand → Stand
walk_back arcs row s =
    let a : Arc = came_by row s.place arcs in
    record { place = a.from; seconds = s.seconds + a.seconds; behind = s.behind ++ (here s ∷ []) }

-- ---- what it may come to

-- the aggregate's code, the aggregate of the crews before, and a ceiling, if there is one
pub record Budget : Type 0 where
  pub code : ℕ
  pub spent : ℕ
  pub ceiling : Option ℕ

abbrev pub budget : (code spent : ℕ) (ceiling : Option ℕ) → Budget
budget code spent ceiling = record { code = code; spent = spent; ceiling = ceiling }

-- the aggregate of the crews before and these seconds exceeds the ceiling: equal to it is not above
unfoldable pub over : Budget → ℕ → Bool
over b t = exceeds b.ceiling (combine b.code b.spent t)

-- what a walk answers: the crew is reached after so many seconds, or the aggregate is above the ceiling
pub data Ended : Type 0 where
  reached : (seconds : ℕ) → Ended
  above : Ended

-- .. of the seconds that it came to
unfoldable pub ended_by : Budget → ℕ → Ended
ended_by b t = choose (over b t) above (reached t)

-- ---- the walk

module _ (arcs : List Arc) (row : ℕ → ℕ) (b : Budget) (crew : ℕ) where
  -- the walk ends: the aggregate is above the ceiling already, or it stands at the crew
  unfoldable pub ended : Stand → Bool
  ended s = over b s.seconds || eqb s.place crew

  -- a step: it walks on, unless it has ended
  unfoldable pub way_step : Stand → Stand
  way_step s = choose (ended s) s (walk_back arcs row s)

  -- so many steps from a yard
  unfoldable pub way_steps : (yard : ℕ) → ℕ → Stand
  way_steps yard zero = start_at yard
  way_steps yard (suc k) = way_step (way_steps yard k)

-- its run in a road book, by the distances from the crew: as many steps as there are junctions, which end it
unfoldable pub least_way : (road : List ℕ) (b : Budget) (crew yard : ℕ) → Stand
least_way road b crew yard = way_steps (net road) (dist road crew) b crew yard (junctions road)

-- what it answers
unfoldable pub way_answer : (road : List ℕ) (b : Budget) (crew yard : ℕ) → Ended
way_answer road b crew yard = ended_by b (least_way road b crew yard).seconds
