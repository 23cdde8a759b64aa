-- The worked examples of roads that have a direction, by computing the definitions. Assumes nothing.
use mathlib.Core.Path.{refl}
use Rattle.book.specs.Choose.{choose}
use Rattle.book.specs.Lists.{keep_if}
use Rattle.tree_layout.specs.Values.{leaf_mark, inner_mark, first_distance, last_from, no_region, region_at, no_mark}
use Rattle.tree_layout.specs.Refusal.{all, comes}
use Rattle.tree_leaf.specs.Leaf.{names, once, in_range, named_by, first_list, agreeing, same_yards, leaf_ok}
use Rattle.tree.specs.Shape.{child_fits, siblings, subtree}
use Rattle.tree.specs.Yards.{end_of, starts, children_of, on_way}
use Rattle.search_rules.specs.Instance.{size, children, marks, leaf}
use Rattle.search_rules.specs.Bounds.{combine, aggregate, greatest_of, least_from, least_of, over, total, furthest, point_bound, first_mark, lower_to, upper_from, away_bound}
use Rattle.search_rules.specs.Bounds.{towards_bound, one_way_bound, bound, chosen, one_way_yard_bound, yard_bound}
use Rattle.search_rules.specs.Keys.{greatest_bound, first_key, is_home, home_from, home, bound_in, yard_key}
use Rattle.search_rules.specs.Queue.{queued, word_at, pick}
use Rattle.search_rules.specs.Order.{yard_first}
use Rattle.search_rules.specs.Held.{insert, hold, last_distance, greatest_held, entry}
use Rattle.search_rules.specs.Keeping.{keep, enough, keep_by, enough_by}
use Rattle.search_rules.specs.Step.{left, queue_children, open_inner, close_leaf, queue_yard, queue_wanted, open_whole, take_leaf}
use Rattle.search_rules.specs.Step.{take_region, take_yard, next_region, next_yard, least_key, step, settled, root_keys, start_search}
use Rattle.search_rules.specs.Run.{advance, run, report, answer}
use Rattle.search_rules.specs.Theorems.{allowance}
use Rattle.search_rules.specs.Examples.{at, found, leaf_of, region_keys_after, yard_keys_after, measured_after, ended, counts, lists}
use Rattle.search_rules.specs.WayExamples.{placed, ahead, regions, inwards, ring_for, ring, without_three, from_one, from_zero, WorkedWays}

pub worked_ways : WorkedWays
unfolding placed ahead regions inwards ring_for ring without_three from_one from_zero at found leaf_of region_keys_after yard_keys_after measured_after ended counts lists choose leaf_mark
    inner_mark first_distance last_from no_region region_at no_mark all comes names once in_range named_by first_list agreeing same_yards leaf_ok child_fits siblings subtree end_of starts children_of
    on_way size keep_if children marks leaf combine aggregate greatest_of least_from least_of over total furthest point_bound first_mark lower_to upper_from away_bound towards_bound one_way_bound
    bound chosen one_way_yard_bound yard_bound greatest_bound first_key is_home home_from home bound_in yard_key queued word_at pick yard_first insert hold last_distance greatest_held entry keep
    enough keep_by enough_by left queue_children open_inner close_leaf queue_yard queue_wanted open_whole take_leaf take_region take_yard next_region next_yard least_key step settled root_keys
    start_search advance run report answer allowance
worked_ways = record {
  points = refl;
  lowers = refl;
  lowers_on_the_way = refl;
  uppers = refl;
  bounds = refl;
  one-part = refl;
  over-crews = refl;
  firsts = refl;
  yard-bounds = refl;
  keys = refl;
  step_1 = refl;
  step_2 = refl;
  both_left = refl;
  nearest-yard = refl;
  nearest-counts = refl;
  wanted-alone = refl;
  all-yards = refl;
  limits = refl;
  ends = refl;
  drive_of_19 = refl;
  by_maximum = refl;
}
