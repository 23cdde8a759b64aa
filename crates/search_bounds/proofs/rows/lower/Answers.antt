use mathlib.Core.Path.{sym}
use native.Mathlib.Omega.{arith}
use Rattle.search_bounds.proofs.Cells.{lower-none, lower-turn, lower-end}
use Rattle.search_bounds.proofs.rows.lower.Goals as goal

pub loop-r-init : goal.loop-r-init
loop-r-init c = sym (lower-none _ _ _)

pub loop-r-preserved : goal.loop-r-preserved
loop-r-preserved c = lower-turn _ _ _ _ _ _ _ c.loop-r.invariant c.row_abs_diff.ensures c.max-x.ensures

pub returns : goal.returns
returns c = lower-end _ _ _ _ _ _ (omega arith) (omega arith) c.loop-r.invariant
