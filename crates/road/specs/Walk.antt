-- Walks along arcs, and the least total of a walk: the paper's distance. Assumes nothing: these are definitions.
use mathlib.Core.List.{List, Memᴰ}
use Rattle.std.specs.Prelude.{ℕ, ◌+◌, ◌≤◌, ◌<◌}
use Rattle.adjacency.specs.Arcs.{Arc}

-- A walk from the first junction to the second along arcs of the net, and its total of seconds: stay put (0), or take
-- an arc and walk on.
pub data Walk (arcs-of : List Arc) : ℕ → ℕ → ℕ → Type 0 where
  stay : {u : ℕ} → Walk arcs-of u u 0
  step : {w t : ℕ} (a : Arc) → Memᴰ a arcs-of → Walk arcs-of a.to w t
      → Walk arcs-of a.from w (a.seconds + t)

-- "Distance d(u, v) is the least total of seconds over all walks from u to v": t is that total
pub record Least (arcs-of : List Arc) (u v t : ℕ) : Type 0 where
  pub walk : Walk arcs-of u v t
  pub least : (s : ℕ) → Walk arcs-of u v s → t ≤ s

-- an arc between junctions below n that takes from 1 to 65,535 seconds
pub record Fit (n : ℕ) (a : Arc) : Type 0 where
  pub from : a.from < n
  pub to : a.to < n
  pub some : 1 ≤ a.seconds
  pub few : a.seconds ≤ 65535

-- every arc is such a one
abbrev pub SoundArcs : ℕ → List Arc → Type 0
SoundArcs n arcs-of = (a : Arc) → Memᴰ a arcs-of → Fit n a
