use Rattle.search_leaf.specs.code.Leaves.{f_in, bound_in}
use Rattle.search_leaf.proofs.Filling.{Filled}
use Rattle.search_leaf.proofs.elements.fill.Given as goal

abbrev pub invariant-loop-k : goal.invariant-loop-k
invariant-loop-k l = Filled (f_in l.code l.out) (bound_in l.code l.table l.rows l.crews l.out) l.v l.list l.k-end l.k l.initial.values l.values
