use mathlib.Core.Path.{◌≡◌}
use lib.ListN.{drop}
use Rattle.road.specs.Dijkstra.{far, at}
use Rattle.yard.specs.Yards.{yards_of}
use Rattle.check_rules.specs.Truth.{least_distance_from, greatest_from, within}
use Rattle.check_distances.proofs.spans.span_true.Given as goal

abbrev pub invariant-loop-k : goal.invariant-loop-k
invariant-loop-k l =
    (least_distance_from (at l.ds) l.low (within l.f.first.number l.f.after (drop l.k (yards_of l.yard)))
    ≡ least_distance_from (at l.ds) far (within l.f.first.number l.f.after (yards_of l.yard)))
    × (greatest_from (at l.ds) l.high (within l.f.first.number l.f.after (drop l.k (yards_of l.yard))) ≡ greatest_from (at l.ds) 0 (within l.f.first.number l.f.after (yards_of l.yard)))
