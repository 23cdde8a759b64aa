-- A range is cut with so many cuts left, and each of its parts with one less. The loop goes over the parts.
use Rattle.build_cuts.proofs.Turns.{Left}
use Rattle.build_cuts.proofs.+cut.Given as goal

abbrev pub decreases-cut : goal.decreases-cut
decreases-cut l = l.levels

abbrev pub invariant-loop-i : goal.invariant-loop-i
invariant-loop-i l = Left l.adj l.yb l.plan l.levels l.p l.fn.tree l.at l.tree l.put.at l.put.regions l.i
