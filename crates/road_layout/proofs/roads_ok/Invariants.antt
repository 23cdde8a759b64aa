use mathlib.Core.Path.{◌≡◌}
use Prim.Native.Nat.{◌-◌}
use Rattle.road_layout.specs.Layout.{roads_ok}
use Rattle.road_layout.proofs.roads_ok.Given as goal

abbrev pub invariant-loop-k : goal.invariant-loop-k
invariant-loop-k l = roads_ok l.b l.n (l.count - l.k) l.k l.l l.h ≡ roads_ok l.b l.n l.count 0 0 0
