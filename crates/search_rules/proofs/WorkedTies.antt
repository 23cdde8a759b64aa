-- The worked examples of ties, by computing the definitions. Assumes nothing.
use mathlib.Core.Path.{refl}
use Rattle.book.specs.Choose.{choose}
use Rattle.book.specs.Lists.{keep_if}
use Rattle.tree_layout.specs.Values.{leaf_mark, inner_mark, first_distance, last_from, no_region, region_at, no_mark}
use Rattle.tree_layout.specs.Refusal.{all, comes}
use Rattle.tree_leaf.specs.Leaf.{names, once, in_range, named_by, first_list, agreeing, same_yards, leaf_ok}
use Rattle.tree.specs.Shape.{siblings, subtree}
use Rattle.tree.specs.Yards.{end_of, starts, children_of}
use Rattle.search_rules.specs.Instance.{size, children, marks, leaf}
use Rattle.search_rules.specs.Bounds.{abs_diff, combine, aggregate, greatest_of, least_from, least_of, crew_bound, table_at, lower, upper, over, total, furthest}
use Rattle.search_rules.specs.Bounds.{mark_bound, bound, weight, best, best_of, chosen, list_abs_diff, f, yard_bound}
use Rattle.search_rules.specs.Queue.{queued, word_at, pick}
use Rattle.search_rules.specs.Order.{yard_first}
use Rattle.search_rules.specs.Held.{insert, hold, last_distance, greatest_held, entry}
use Rattle.search_rules.specs.Keeping.{keep, enough, keep_by, enough_by}
use Rattle.search_rules.specs.Step.{left, no_element, again_key, passed, waiting, next_place, next_f, queue_children, open_inner, queue_next, close_leaf, open_leaf}
use Rattle.search_rules.specs.Step.{take_region, take_yard, next_region, next_yard, least_key, step, settled, root_keys, start_search}
use Rattle.search_rules.specs.Run.{advance, run, report, answer}
use Rattle.search_rules.specs.Examples.{on_chain, at, found, leaf_of, driven, wanting, ended, counts, lists, measured_after}
use Rattle.search_rules.specs.TieExamples.{between, three_way, WorkedTies}
use Rattle.search_rules.specs.Step.{take_leaf}
use Rattle.search_rules.specs.Bounds.{picked, two_way_bound, two_way_yard_bound}

pub worked_ties : WorkedTies
unfolding between three_way on_chain at found leaf_of driven wanting ended counts lists measured_after choose leaf_mark inner_mark first_distance last_from
    no_region region_at no_mark all comes names once in_range named_by first_list agreeing same_yards leaf_ok siblings subtree end_of starts children_of size keep_if children
    marks leaf abs_diff combine aggregate greatest_of least_from least_of crew_bound table_at lower upper over total furthest mark_bound bound weight best best_of chosen
    list_abs_diff f yard_bound queued word_at pick yard_first insert hold last_distance greatest_held entry keep enough keep_by enough_by left no_element again_key passed waiting next_place next_f
    queue_children open_inner queue_next close_leaf open_leaf take_region take_yard next_region next_yard least_key step settled root_keys start_search advance run report answer two_way_bound picked two_way_yard_bound take_leaf
worked_ties = record {
  higher_number = refl;
  lower-number = refl;
  first_of_three = refl;
  two_of_three = refl;
  all_three = refl;
  in_turn_lem = refl;
  at_the_limit = refl;
  spent = refl;
  taken = refl;
  within_10 = refl;
  within_9 = refl;
  maximum = refl;
}
