use Rattle.build_records.proofs.Gathering.{Gathering}
use Rattle.build_records.proofs.kinds_of.Given as goal

abbrev pub invariant-loop-k : goal.invariant-loop-k
invariant-loop-k l = Gathering l.yb l.from l.end l.k l.x
