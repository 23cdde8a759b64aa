use Rattle.search_bounds.specs.code.Rows.{rows_lower}
use Rattle.search_bounds.proofs.Folds.{Summed}
use Rattle.search_bounds.proofs.picks.weight.Given as goal

abbrev pub invariant-loop-q : goal.invariant-loop-q
invariant-loop-q l = Summed 4294967295 0 (rows_lower l.table l.rows l.l.number) l.crews l.q-index l.x
