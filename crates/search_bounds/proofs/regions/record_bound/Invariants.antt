use Rattle.tree_layout.specs.code.Marks.{marks_at}
use Rattle.search_bounds.specs.code.Bounds.{rows_crew}
use Rattle.search_bounds.proofs.Folds.{Summed}
use Rattle.search_bounds.proofs.regions.record_bound.Given as goal

abbrev pub invariant-loop-q : goal.invariant-loop-q
invariant-loop-q l = Summed 4294967295 l.code (rows_crew l.table l.rows (marks_at l.tree l.at)) l.crews l.q-index l.x
