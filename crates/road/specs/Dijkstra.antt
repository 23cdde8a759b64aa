-- Dijkstra's rounds, which compute least distances. Assumes nothing: these are definitions.
use Rattle.std.specs.Prelude.{Bool, true, false, List, [], ◌∷◌, ℕ, zero, suc, ◌+◌, get_or, set, replicate, ltb, eqb}
use Rattle.book.specs.Choose.{choose}
use Rattle.adjacency.specs.Arcs.{Arc, net}
use Rattle.road_layout.specs.Road.{junctions}

-- the distance of a junction that is not reached: above every other
abbrev pub far : ℕ
far = 4294967295

-- as many places as a book may have junctions
abbrev pub width : ℕ
width = 1024

-- the distance of junction v in a list of distances
unfoldable pub at : List ℕ → ℕ → ℕ
at ds v = get_or ds v far

-- The state of a walk: the distances so far, and which junctions have been walked on from (settled).
pub record WalkState : Type 0 where
  pub ds : List ℕ
  pub done : List Bool

-- junction v has been walked on from
unfoldable pub walked : List Bool → ℕ → Bool
walked done v = get_or done v false

-- what the choice goes by: the distance so far, or `far` if v has been walked on from
unfoldable pub score : WalkState → ℕ → ℕ
score st v = choose (walked st.done v) far (at st.ds v)

-- the one of two junctions with the lower score; the second where they tie
unfoldable pub nearer : WalkState → ℕ → ℕ → ℕ
nearer st a b = choose (ltb (score st a) (score st b)) a b

-- the junction of lowest score below k, ties to the lower number
unfoldable pub pick_nearest : WalkState → ℕ → ℕ
pick_nearest st zero = zero
pick_nearest st (suc k) = let p = pick_nearest st k in nearer st k p

-- the distances with x for junction v if that is shorter
unfoldable pub shorten : List ℕ → ℕ → ℕ → List ℕ
shorten ds v x = choose (ltb x (at ds v)) (set ds v x) ds

-- the distances with arc a relaxed, if it leaves junction u, which is at distance d
unfoldable pub relax_arc : ℕ → ℕ → Arc → List ℕ → List ℕ
relax_arc u d a ds = choose (eqb a.from u) (shorten ds a.to (d + a.seconds)) ds

-- the distances with every arc of a list relaxed that leaves u
unfoldable pub relax : ℕ → ℕ → List Arc → List ℕ → List ℕ
relax u d [] ds = ds
relax u d (a ∷ arcs) ds = relax u d arcs (relax_arc u d a ds)

-- walk on from u: mark it, and relax every arc that leaves it
unfoldable pub walk_on : List Arc → WalkState → ℕ → WalkState
walk_on arcs st u = record { ds = relax u (at st.ds u) arcs st.ds; done = set st.done u true }

-- a round at u: walk on from it if it is reached and not yet walked on from
unfoldable pub round_at : List Arc → WalkState → ℕ → WalkState
round_at arcs st u = let on = walk_on arcs st u in choose (ltb (score st u) far) on st

-- k rounds among n junctions, each at the nearest junction that is not yet walked on from
unfoldable pub rounds : List Arc → ℕ → ℕ → WalkState → WalkState
rounds arcs n zero st = st
rounds arcs n (suc k) st = let r = rounds arcs n k st in round_at arcs r (pick_nearest r n)

-- only the source is reached, at 0, and none is walked on from
unfoldable pub start_walk : ℕ → WalkState
start_walk source = record { ds = set (replicate width far) source 0; done = replicate width false }

-- the state of a whole walk from a source
unfoldable pub walk_from : List Arc → ℕ → ℕ → WalkState
walk_from arcs n source = rounds arcs n n (start_walk source)

-- the distances from a source, `far` where there is no walk
unfoldable pub distances : List Arc → ℕ → ℕ → List ℕ
distances arcs n source = (walk_from arcs n source).ds

-- the distance from u to v in a road book: d(u, v)
unfoldable pub dist : List ℕ → ℕ → ℕ → ℕ
dist b u v = at (distances (net b) (junctions b) u) v
