use Rattle.build_cuts.proofs.Counting.{Parted}
use Rattle.build_cuts.proofs.ranges.part_count.Given as goal

abbrev pub invariant-loop-i : goal.invariant-loop-i
invariant-loop-i l = Parted l.yb l.first l.s l.count l.low l.i
