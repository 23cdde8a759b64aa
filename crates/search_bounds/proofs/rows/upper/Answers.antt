use mathlib.Core.Path.{sym, ◌∙◌}
use native.Mathlib.Omega.{arith}
use Rattle.search_bounds.proofs.Cells.{upper-one, upper-turn, upper-end}
use Rattle.search_bounds.proofs.rows.upper.Goals as goal

pub loop-r-init : goal.loop-r-init
loop-r-init c = c.row_sum-x.ensures ∙ sym (upper-one _ _ _)

pub loop-r-preserved : goal.loop-r-preserved
loop-r-preserved c = upper-turn _ _ _ _ _ _ _ (omega arith) c.loop-r.invariant c.row_sum.ensures c.min-x.ensures

pub returns : goal.returns
returns c = upper-end _ _ _ _ _ _ (omega arith) (omega arith) c.loop-r.invariant
