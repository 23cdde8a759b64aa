use mathlib.Core.Path.{◌≡◌}
use Rattle.search_bounds.specs.code.Rows.{rows_upper}
use Rattle.search_bounds.proofs.rows.upper.Given as goal

abbrev pub invariant-loop-r : goal.invariant-loop-r
invariant-loop-r l = l.x ≡ rows_upper l.table l.r l.l.number l.q.number
