use Rattle.tree_layout.specs.code.Marks.{marks_at}
use Rattle.search_bounds.specs.code.Bounds.{rows_mark}
use Rattle.search_bounds.proofs.Folds.{Greatest}
use Rattle.search_bounds.proofs.regions.crew_region.Given as goal

abbrev pub invariant-loop-j : goal.invariant-loop-j
invariant-loop-j l = Greatest (rows_mark l.table l.rows l.q.number) (marks_at l.tree l.at) l.j l.x
