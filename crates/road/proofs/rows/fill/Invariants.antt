use mathlib.Core.Path.{◌≡◌}
use mathlib.Core.List.{List}
use Prim.Native.Nat.{ℕ}
use lib.ListN.{length}
use Rattle.adjacency.specs.Adjacency.{Adjacency}
use Rattle.road.proofs.Filling.{RowedTo}
use Rattle.road.proofs.rows.fill.Given as goal

abbrev pub invariant-loop-r : goal.invariant-loop-r
invariant-loop-r l = (length l.rows ≡ length l.initial.rows) × ((road : List ℕ) → Adjacency road l.adj → RowedTo l.r road l.sources l.rows)
