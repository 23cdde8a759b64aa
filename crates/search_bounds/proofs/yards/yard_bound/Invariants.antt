use Rattle.search_bounds.proofs.Aggregating.{Bounding}
use Rattle.search_bounds.proofs.yards.yard_bound.Given as goal

abbrev pub invariant-loop-j : goal.invariant-loop-j
invariant-loop-j l = Bounding l.code l.table l.rows l.crews l.out l.yard.number l.distance l.j l.total
