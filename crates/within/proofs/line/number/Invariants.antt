use Rattle.within.proofs.Numbers.{Reading}
use Rattle.within.proofs.line.number.Given as goal

abbrev pub invariant-loop-i : goal.invariant-loop-i
invariant-loop-i l = Reading l.s l.i l.n
