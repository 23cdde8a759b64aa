-- The worked examples, by computing the definitions. Assumes nothing.
use mathlib.Core.Path.{refl}
use Rattle.book.specs.Choose.{choose}
use Rattle.book.specs.Lists.{keep_if}
use Rattle.tree_layout.specs.Values.{leaf_mark, inner_mark, first_distance, last_from, no_region, region_at, no_mark}
use Rattle.tree_layout.specs.Refusal.{all, comes}
use Rattle.tree_leaf.specs.Leaf.{names, once, in_range, named_by, first_list, agreeing, same_yards, leaf_ok}
use Rattle.tree.specs.Shape.{siblings, subtree}
use Rattle.tree.specs.Yards.{end_of, starts, children_of}
use Rattle.search_rules.specs.Instance.{size, children, marks, leaf}
use Rattle.search_rules.specs.Bounds.{abs_diff, combine, aggregate, greatest_of, least_from, least_of, crew_bound, table_at, lower, upper, over, total, furthest}
use Rattle.search_rules.specs.Bounds.{mark_bound, bound, weight, best, best_of, chosen, list_abs_diff, f, yard_bound}
use Rattle.search_rules.specs.Queue.{queued, word_at, pick}
use Rattle.search_rules.specs.Order.{yard_first}
use Rattle.search_rules.specs.Held.{insert, hold, last_distance, greatest_held, entry}
use Rattle.search_rules.specs.Keeping.{keep, enough, keep_by, enough_by}
use Rattle.search_rules.specs.Step.{left, no_element, again_key, passed, waiting, next_place, next_f, queue_children, open_inner, queue_next, close_leaf, open_leaf}
use Rattle.search_rules.specs.Step.{take_region, take_yard, next_region, next_yard, least_key, step, settled, root_keys, start_search}
use Rattle.search_rules.specs.Run.{advance, run, report, answer}
use Rattle.search_rules.specs.Theorems.{any_wanted, barren, barren_from, barrens}
use Rattle.search_rules.specs.Examples.{on_chain, at, found, leaf_of, three, from0, from2, heavy, near, six_for, six, across, driven, wanting, four_only, five_only, in_vain, none_wanted, net_for, ended, counts, lists}
use Rattle.search_rules.specs.Examples.{region_keys_after, yard_keys_after, measured_after, Worked}
use Rattle.search_rules.specs.Step.{take_leaf}
use Rattle.search_rules.specs.Bounds.{picked, two_way_bound, two_way_yard_bound}

pub worked : Worked
unfolding on_chain at found leaf_of three from0 from2 heavy near six_for six across driven wanting four_only five_only in_vain none_wanted net_for ended counts lists region_keys_after yard_keys_after measured_after choose leaf_mark inner_mark first_distance last_from
    no_region region_at no_mark all comes names once in_range named_by first_list agreeing same_yards leaf_ok siblings subtree end_of starts children_of size keep_if children
    marks leaf abs_diff combine aggregate greatest_of least_from least_of crew_bound table_at lower upper over total furthest mark_bound bound weight best best_of chosen
    list_abs_diff f yard_bound queued word_at pick yard_first insert hold last_distance greatest_held entry keep enough keep_by enough_by left no_element again_key passed waiting next_place next_f
    queue_children open_inner queue_next close_leaf open_leaf take_region take_yard next_region next_yard least_key step settled root_keys start_search advance run report answer
    any_wanted barren barren_from barrens two_way_bound picked two_way_yard_bound take_leaf
worked = record {
  tied-weights = refl;
  first-landmark = refl;
  by_sum = refl;
  bounds = refl;
  by_landmark = refl;
  by_table = refl;
  step_1 = refl;
  step_2 = refl;
  step_3 = refl;
  none-measured = refl;
  step_4 = refl;
  by_next = refl;
  drive_of_10 = refl;
  drive_of_9 = refl;
  stops_above = refl;
  measured-above = refl;
  counted-above = refl;
  wanted_1 = refl;
  wanted-beside = refl;
  wanted_2 = refl;
  wanted_3 = refl;
  wanted-list = refl;
  next-wanted = refl;
  whole-list = refl;
  vain_3 = refl;
  vain_4 = refl;
  vain_counts = refl;
  vain_list = refl;
  vain_leaves = refl;
  none-queued = refl;
  none-settled = refl;
  none-counts = refl;
  none_list = refl;
}
