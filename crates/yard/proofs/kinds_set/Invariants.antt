use mathlib.Core.Path.{◌≡◌}
use Prim.Native.Nat.{◌-◌}
use Rattle.yard.specs.Yards.{kinds_set}
use Rattle.yard.proofs.kinds_set.Given as goal

abbrev pub invariant-loop-i : goal.invariant-loop-i
invariant-loop-i l = kinds_set l.b (l.count - l.i) l.i ≡ kinds_set l.b l.count 0
