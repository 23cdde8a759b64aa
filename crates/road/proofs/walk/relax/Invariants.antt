use mathlib.Core.List.{List}
use Prim.Native.Nat.{ℕ}
use Rattle.adjacency.specs.Adjacency.{Adjacency}
use Rattle.road.specs.code.Queue.{reach}
use Rattle.road.proofs.Following.{Chain}
use Rattle.road.proofs.walk.relax.Given as goal

abbrev pub invariant-loop-a : goal.invariant-loop-a
invariant-loop-a l = (b : List ℕ) → Adjacency b l.adj → Chain b l.adj l.u l.d (reach l.initial.row l.initial.queue) (reach l.row l.queue) l.a

abbrev pub decreases-loop-a : goal.decreases-loop-a
decreases-loop-a l = l.a
