use mathlib.Core.List.{List}
use Prim.Native.Nat.{ℕ}
use Rattle.road_layout.specs.Road.{roads}
use Rattle.adjacency.specs.Adjacency.{Adjacency}
use Rattle.adjacency.proofs.Chains.{ChainAt}
use Rattle.build_rules.specs.Cut.{outside, is_border}
use Rattle.build_records.proofs.borders.is_border.Given as goal

abbrev pub invariant-loop-x : goal.invariant-loop-x
invariant-loop-x l = (road : List ℕ) → Adjacency road l.adj → ChainAt (outside l.a l.s) l.v l.adj (is_border (roads road) l.a l.s l.v) l.x

abbrev pub decreases-loop-x : goal.decreases-loop-x
decreases-loop-x l = l.x
