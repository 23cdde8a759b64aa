use mathlib.Core.List.{List}
use Prim.Native.Nat.{ℕ}
use Rattle.road_layout.specs.Road.{roads}
use Rattle.adjacency.specs.Adjacency.{Adjacency}
use Rattle.build_records.proofs.Scanning.{Bordering}
use Rattle.build_records.proofs.borders.border_list.Given as goal

abbrev pub invariant-loop-v : goal.invariant-loop-v
invariant-loop-v l = (road : List ℕ) → Adjacency road l.adj → Bordering (roads road) l.low l.s l.list l.n l.v
