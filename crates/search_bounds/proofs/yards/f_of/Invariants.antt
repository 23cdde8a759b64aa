use Rattle.search_rules.specs.Bounds.{abs_diff}
use Rattle.search_bounds.specs.code.Measures.{longest}
use Rattle.search_bounds.proofs.Folds.{Summed}
use Rattle.search_bounds.proofs.yards.f_of.Given as goal

abbrev pub invariant-loop-d : goal.invariant-loop-d
invariant-loop-d l = Summed longest l.code (λ x. abs_diff x l.distance) l.out l.d-index l.total
