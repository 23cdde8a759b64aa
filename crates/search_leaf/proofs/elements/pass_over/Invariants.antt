use Rattle.search_leaf.proofs.Passing.{Passing}
use Rattle.search_leaf.proofs.elements.pass_over.Given as goal

abbrev pub invariant-loop-k : goal.invariant-loop-k
invariant-loop-k l = Passing l.wanted l.v l.list l.k-end l.k l.initial.values l.values
