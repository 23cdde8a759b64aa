-- The worked bounds by two landmarks, by computing the definitions. Assumes nothing.
use mathlib.Core.Path.{refl}
use Rattle.book.specs.Choose.{choose}
use Rattle.tree_layout.specs.Values.{leaf_mark, inner_mark, first_distance, last_from, no_region, region_at}
use Rattle.search_rules.specs.Instance.{marks}
use Rattle.search_rules.specs.Bounds.{abs_diff, combine, aggregate, greatest_of, least_from, least_of, crew_bound, table_at, lower, upper, over, mark_bound, two_way_bound, bound, weight, best, best_of, picked, chosen}
use Rattle.search_rules.specs.Examples.{on_chain, at, leaf_of}
use Rattle.search_rules.specs.BoundExamples.{twice, twice_from, WorkedBounds}

pub worked_bounds : WorkedBounds
unfolding twice twice_from on_chain at leaf_of choose leaf_mark inner_mark first_distance last_from no_region region_at marks abs_diff combine aggregate greatest_of least_from least_of crew_bound
    table_at lower upper over mark_bound two_way_bound bound weight best best_of picked chosen
worked_bounds = record {
  lowers = refl;
  uppers = refl;
  by_the_first = refl;
  by_the_second = refl;
  over-crews = refl;
  weights = refl;
  second_picked = refl;
}
