-- The examples' trees pass, and what four searches in turn leave, by computing the definitions; and demand 3 of them. Assumes nothing.
use mathlib.Core.Path.{refl}
use mathlib.Core.List.Memᴰ.{head}
use mathlib.Core.List.Memᴰ.{tail}
use mathlib.Core.List.{List, [], ◌∷◌, Memᴰ as Mem}
use Prim.Native.Nat.{ℕ, zero, suc, ◌<◌}
use native.Mathlib.Omega.{arith}
use lib.ListN.{get_or}
use lib.Dec.{T, ltb, ltb→lt}
use Rattle.book.specs.Bytes.{Bytes}
use Rattle.book.proofs.Choosing.{and_left, and_right}
use Rattle.book.specs.Choose.{choose, refuse, first_of}
use Rattle.book.specs.Bytes.{u8_at, u16_at, u32_at}
use Rattle.book.specs.Writing.{write}
use Rattle.book.specs.Lists.{keep_if}
use Rattle.book.specs.Open.{version, open_refusal}
use Rattle.kinds.specs.Kinds.{shares, together_from, together, kind_size, kind_at}
use Rattle.work_area.specs.Work.{work_refusal, zeroed, work_after}
use Rattle.road_layout.specs.Road.{junctions, road_count, road_at, roads_to, roads}
use Rattle.road_layout.specs.Layout.{after, road_ok, roads_ok, road_layout_refusal as roadLayout}
use Rattle.adjacency.specs.Arcs.{along, back, arcs, net}
use Rattle.road.specs.Dijkstra.{at, walked, score, nearer, pick_nearest as pickNear, shorten, relax_arc, relax, walk_on, round_at, rounds, start_walk, walk_from}
use Rattle.road.specs.Dijkstra.{distances, dist}
use Rattle.road.specs.Refusal.{all_reached, road_refusal}
use Rattle.query.specs.Query.{aggregate_of, k_of, limit_of, crew_count, crew_at, crews_from, crews_of, inside, value_refusal, query_body_refusal, query_refusal}
use Rattle.tree_layout.specs.Values.{first_distance, last_from, leaf_mark, inner_mark, no_region, region_at}
use Rattle.tree_layout.specs.Sizes.{fields_size, element_size, list_size, leaf_mark_size}
use Rattle.tree_layout.specs.Decode.{element_at, read_list, list_part, read_lists, read_spans, read_marks, mark_size, record_size, size_at, read_region, read_regions}
use Rattle.tree_layout.specs.Decode.{junction_count, region_count, tree_yard_count, landmark_count, decode}
use Rattle.tree_layout.specs.Refusal.{between, all, records_ok, element_ok, comes, rises_from, list_rises, list_ok, mark_ok, children_ok, region_ok, values_ok}
use Rattle.tree_layout.specs.Refusal.{tree_layout_refusal as treeLayout}
use Rattle.tree_leaf.specs.Leaf.{names, once, in_range, named_by, first_list, same_yards, agreeing, leaf_ok}
use Rattle.tree.specs.Shape.{child_fits, siblings, subtree, shaped, tree_refusal}
use Rattle.tree.specs.Yards.{end_of, starts, children_of, kinds_in, own_list, kinds_from, kinds_of}
use Rattle.search_rules.specs.Instance.{size, children, marks, leaf}
use Rattle.search_rules.specs.Books.{search_of}
use Rattle.search_rules.specs.Bounds.{abs_diff, combine, aggregate, greatest_of, least_from, least_of, crew_bound, table_at, lower, upper, over, total, furthest, mark_bound}
use Rattle.search_rules.specs.Bounds.{bound, weight, best, best_of, chosen, list_abs_diff, f, yard_bound}
use Rattle.tree_layout.specs.Values.{no_mark}
use Rattle.search_rules.specs.Queue.{queued, word_at, pick}
use Rattle.search_rules.specs.Order.{yard_first}
use Rattle.search_rules.specs.Held.{insert, hold, last_distance, greatest_held, entry}
use Rattle.search_rules.specs.Keeping.{keep_by, enough_by, keep, enough}
use Rattle.search_rules.specs.Step.{left, no_element, again_key, passed, waiting, next_place, next_f, queue_children, open_inner, queue_next, close_leaf, open_leaf}
use Rattle.search_rules.specs.Step.{take_region, take_yard, next_region, next_yard, least_key, step, settled, root_keys, start_search}
use Rattle.search_rules.specs.Run.{words, advance, run, report, answer}
use Rattle.search_call.specs.Call.{tree_refusal_in, areas_refusal, search_refusal, refused, accepted, search_found, results_after, found_on, call_on, areas_after}
use Rattle.search_call.specs.Call.{Call}
use Rattle.examples.specs.Books.{road_n, tree_n, road_one, tree_one, road_three, tree_three, tree_kinds, crew_bytes, asking, on_n, on_one, on_three, on_kinds}
use Rattle.examples.specs.Books.{lent, row, settled_row, spent_row, refused_row}
use Rattle.yard.specs.Yards.{yard_count as yards_in, yard_at, yards_from, yards_of, yards_rise, inside as yardsInside, yard_body_refusal as yardBody, yard_refusal}
use Rattle.yard.specs.Yards.{yards_size, yard_place, yard_kind, kinds_set, kinds_from as yardKinds', kind_table, kind_of, yard_refusal_in}
use Rattle.tree.specs.Yards.{own_yards, leaf_yards_from as leafYards, yards_below, tree_yards}
use Rattle.tree_leaf.specs.Leaf.{yards_in as listYards}
use Rattle.check_rules.specs.Truth.{least_distance_from as leastYard, least, greatest_from, greatest, true_element, true_list, true_span, true_region, true_from}
use Rattle.check_rules.specs.Truth.{true_tree, kinds_element, kinds_list, kinds_region, kinds_from as regionKinds, kinds_tree}
use Rattle.check_tree.specs.Check.{has, same_set, tree_refusal_beside, check_answer}
use Rattle.search_call.proofs.Demand.{demand_3}
use Rattle.examples.specs.InTurn.{yard_n, yard_one, yard_three, yard_kinds, four, InTurn}
use Rattle.search_rules.specs.Step.{take_leaf}
use Rattle.search_rules.specs.Bounds.{picked, two_way_bound, two_way_yard_bound}

-- every number of a list is below another, and so is 0
below_all : (n : ℕ) (l : List ℕ) → 0 < n → T (all (λ x. ltb x n) l) → (v : ℕ) → get_or l v 0 < n
unfolding all
below_all n [] h t v = h
below_all n (x ∷ l) h t zero = ltb→lt x n (and_left (ltb x n) _ t)
below_all n (x ∷ l) h t (suc v) = below_all n l h (and_right (ltb x n) _ t) v

bytes : (c : Call) → Mem c four → Bytes c.tree
unfolding Bytes four on_n on_three tree_n tree_three all
bytes c (head e) = rw e (λ v. below_all 256 tree_n (omega arith) tt v)
bytes c (tail (head e)) = rw e (λ v. below_all 256 tree_n (omega arith) tt v)
bytes c (tail (tail (head e))) = rw e (λ v. below_all 256 tree_n (omega arith) tt v)
bytes c (tail (tail (tail (tail m)))) = elim m [ ]
bytes c (tail (tail (tail (head e)))) = rw e (λ v. below_all 256 tree_three (omega arith) tt v)

pub in_turn_lem : InTurn
unfolding choose refuse first_of u8_at u16_at u32_at write keep_if version open_refusal shares together_from together kind_size kind_at work_refusal junctions
    road_count road_at roads_to roads after road_ok roads_ok roadLayout along back arcs net at walked score nearer pickNear shorten relax_arc relax walk_on round_at
    rounds start_walk walk_from distances dist all_reached road_refusal aggregate_of k_of limit_of crew_count crew_at crews_from crews_of inside value_refusal
    query_body_refusal query_refusal first_distance last_from leaf_mark inner_mark no_region region_at fields_size element_size list_size leaf_mark_size element_at
    read_list list_part read_lists read_spans read_marks mark_size record_size size_at read_region read_regions junction_count region_count tree_yard_count landmark_count
    decode between all records_ok element_ok comes rises_from list_rises list_ok mark_ok children_ok region_ok values_ok treeLayout names once in_range named_by
    first_list same_yards agreeing leaf_ok child_fits siblings subtree shaped tree_refusal end_of starts children_of kinds_in own_list kinds_from kinds_of size
    children marks leaf search_of abs_diff combine aggregate greatest_of least_from least_of crew_bound no_mark table_at lower upper over total furthest mark_bound bound
    weight best best_of chosen list_abs_diff f yard_bound queued word_at pick yard_first insert hold last_distance greatest_held entry keep_by enough_by keep enough
    left no_element again_key passed waiting next_place next_f queue_children open_inner queue_next close_leaf open_leaf take_region take_yard next_region next_yard
    least_key step settled root_keys start_search words advance run report answer tree_refusal_in areas_refusal search_refusal refused accepted search_found
    results_after found_on call_on road_n tree_n road_one tree_one road_three tree_three crew_bytes asking on_n on_one on_three lent row settled_row spent_row yards_in two_way_bound picked two_way_yard_bound take_leaf
    yards_size yard_place yard_at yard_kind kinds_set yardKinds' kind_table kind_of yards_from yards_of yards_rise yardsInside yardBody yard_refusal yard_refusal_in
    own_yards leafYards yards_below tree_yards listYards leastYard least greatest_from greatest true_element true_list true_span true_region true_from true_tree
    kinds_element kinds_list kinds_region regionKinds kinds_tree has same_set tree_refusal_beside check_answer yard_n yard_one yard_three yard_kinds tree_kinds on_kinds
    four refused_row areas_after zeroed work_after
in_turn_lem = record {
  passes-N = refl;
  passes-one = refl;
  passes-three = refl;
  passes-kinds = refl;
  other-kinds = refl;
  wanted_2 = refl;
  wanted_4 = refl;
  wanted_0 = refl;
  refused = refl;
  results = refl;
  promised = demand_3 four bytes lent;
}
