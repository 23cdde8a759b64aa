use mathlib.Core.Path.{◌≡◌}
use Rattle.search_bounds.specs.code.Rows.{rows_lower}
use Rattle.search_bounds.proofs.rows.lower.Given as goal

abbrev pub invariant-loop-r : goal.invariant-loop-r
invariant-loop-r l = l.x ≡ rows_lower l.table l.r l.l.number l.q.number
