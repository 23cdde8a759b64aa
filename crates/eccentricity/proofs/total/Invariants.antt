use mathlib.Core.Path.{◌≡◌}
use Prim.Native.Nat.{◌*◌, ◌≤◌}
use Rattle.eccentricity.specs.Rows.{row_total}
use Rattle.eccentricity.proofs.total.Given as goal

abbrev pub invariant-loop-d : goal.invariant-loop-d
invariant-loop-d l = (l.sum ≤ l.d-index * 4294967296) × (l.sum ≡ row_total l.ds l.d-index)
