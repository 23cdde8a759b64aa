use Rattle.build_records.proofs.Measuring.{Measuring}
use Rattle.build_records.proofs.spans.measure.Given as goal

abbrev pub invariant-loop-k : goal.invariant-loop-k
invariant-loop-k l = Measuring l.row l.yb l.from l.to l.k l.low l.high
