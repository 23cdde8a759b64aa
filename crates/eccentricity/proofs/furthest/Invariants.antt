use mathlib.Core.Path.{◌≡◌}
use Rattle.eccentricity.specs.Rows.{furthest_of}
use Rattle.eccentricity.proofs.furthest.Given as goal

abbrev pub invariant-loop-d : goal.invariant-loop-d
invariant-loop-d l = l.most ≡ furthest_of l.ds l.d-index
