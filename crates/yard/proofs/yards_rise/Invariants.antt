use mathlib.Core.Path.{◌≡◌}
use Prim.Native.Nat.{◌-◌}
use Rattle.yard.specs.Yards.{yards_from, yards_rise}
use Rattle.yard.proofs.yards_rise.Given as goal

abbrev pub invariant-loop-i : goal.invariant-loop-i
invariant-loop-i l = yards_rise l.low (yards_from l.b (l.count - l.i) l.i) ≡ yards_rise 0 (yards_from l.b l.count 0)
