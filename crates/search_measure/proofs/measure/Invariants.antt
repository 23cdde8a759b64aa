use mathlib.Core.Path.{◌≡◌}
use mathlib.Core.List.{List}
use Prim.Native.Nat.{ℕ}
use lib.ListN.{length}
use Rattle.search_measure.specs.code.Cases.{ceiling_of, Measurable}
use Rattle.search_measure.proofs.Crewing.{SoFar}
use Rattle.search_measure.proofs.measure.Given as goal

abbrev pub invariant-loop-j : goal.invariant-loop-j
invariant-loop-j l = (length l.walked ≡ 1024)
    × ((road : List ℕ) → Measurable road l.adj l.crews l.rows l.yard.number → SoFar road l.code l.crews (ceiling_of l.ceiling) l.yard.number l.total l.furthest l.j)
