use Rattle.build_cuts.proofs.Counting.{Below}
use Rattle.build_cuts.proofs.ranges.below.Given as goal

abbrev pub invariant-loop-n : goal.invariant-loop-n
invariant-loop-n l = Below l.yb l.x l.n
