use mathlib.Core.Path.{◌≡◌}
use lib.ListN.{drop}
use Rattle.yard.specs.Yards.{yards_of}
use Rattle.check_tree.specs.Check.{has}
use Rattle.check_tree.proofs.yards.has_yard.Given as goal

abbrev pub invariant-loop-k : goal.invariant-loop-k
invariant-loop-k l = has (drop l.k (yards_of l.yard)) l.y.number ≡ has (yards_of l.yard) l.y.number
