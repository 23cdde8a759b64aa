use mathlib.Core.Path.{◌≡◌}
use mathlib.Core.Logic.{◌≢◌}
use mathlib.Core.List.{List}
use Prim.Native.Nat.{ℕ}
use lib.ListN.{get_or}
use Rattle.search_measure.specs.code.Cases.{Steers}
use Rattle.search_measure.proofs.Finding.{Chain}
use Rattle.search_measure.proofs.step.Given as goal

abbrev pub invariant-loop-w : goal.invariant-loop-w
invariant-loop-w l = (l.here ≡ get_or l.row l.v 0) × ((road : List ℕ) (crew : ℕ) → Steers road l.adj l.row crew → l.v ≢ crew → Chain road l.adj crew l.v l.a)

abbrev pub decreases-loop-w : goal.decreases-loop-w
decreases-loop-w l = l.a
