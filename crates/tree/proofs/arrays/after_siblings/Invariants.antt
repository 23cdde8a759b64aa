use mathlib.Core.Path.{◌≡◌}
use lib.ListN.{get_or}
use Rattle.tree.specs.Yards.{hops}
use Rattle.tree.proofs.arrays.after_siblings.Given as goal

abbrev pub invariant-loop : goal.invariant-loop
invariant-loop l = l.j ≡ hops (λ i. get_or l.ends i 0) l.counter l.start
