use Rattle.tree_layout.specs.code.Marks.{marks_at}
use Rattle.search_bounds.specs.code.Bounds.{mark_weight}
use Rattle.search_bounds.proofs.Picking.{Picked}
use Rattle.search_bounds.proofs.picks.pick_at.Given as goal

abbrev pub invariant-loop-j : goal.invariant-loop-j
invariant-loop-j l = Picked (mark_weight l.table l.rows l.crews (marks_at l.tree l.at)) l.j l.p l.best
