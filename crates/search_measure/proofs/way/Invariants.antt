use mathlib.Core.Path.{◌≡◌}
use mathlib.Core.List.{List}
use Prim.Native.Nat.{ℕ, ◌-◌, ◌<◌}
use lib.ListN.{length}
use Rattle.adjacency.specs.Adjacency.{count_in}
use Rattle.search_measure.specs.code.Cases.{budget_of, Steers}
use Rattle.search_measure.proofs.Along.{Along}
use Rattle.search_measure.proofs.way.Given as goal

abbrev pub invariant-walking : goal.invariant-walking
invariant-walking l = (length l.walked ≡ 1024)
    × ((road : List ℕ) → Steers road l.adj l.row l.q → l.initial.v < count_in l.adj → Along road (budget_of l.code l.spent l.ceiling) l.q l.initial.v l.walked l.v l.t l.n)

abbrev pub decreases-walking : goal.decreases-walking
decreases-walking l = 1024 - l.n
