use mathlib.Core.Path.{◌≡◌}
use Prim.Native.Nat.{◌-◌}
use Rattle.query.specs.Query.{crews_from, crews_of, inside}
use Rattle.query.proofs.crews_inside.Given as goal

abbrev pub invariant-loop-i : goal.invariant-loop-i
invariant-loop-i l = inside l.n (crews_from l.b (l.count - l.i) l.i) ≡ inside l.n (crews_of l.b)
