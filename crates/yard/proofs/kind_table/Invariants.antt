use mathlib.Core.Path.{◌≡◌}
use Prim.Native.Nat.{◌-◌}
use lib.ListN.{length}
use Rattle.yard.specs.Yards.{yard_count, kinds_from, kind_table}
use Rattle.yard.proofs.kind_table.Given as goal

abbrev pub invariant-loop-i : goal.invariant-loop-i
invariant-loop-i l = (length l.table ≡ 1024) × (kinds_from l.b (yard_count l.b - l.i) l.i l.table ≡ kind_table l.b)
