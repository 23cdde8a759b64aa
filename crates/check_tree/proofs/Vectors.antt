-- Net N of 01, checked by running the definition. Assumes nothing.
use mathlib.Core.Path.{◌≡◌, refl}
use mathlib.Core.List.{List, [], ◌∷◌, map}
use Prim.Native.Nat.{ℕ}
use lib.ListN.{set}
use Rattle.tree_layout.proofs.Vectors.{net_n, net_kinds}
use Rattle.book.specs.Choose.{choose, refuse, first_of}
use Rattle.book.specs.Bytes.{u8_at, u16_at, u32_at}
use Rattle.book.specs.Open.{version, open_refusal}
use Rattle.kinds.specs.Kinds.{together_from, together, kind_size, kind_at}
use Rattle.work_area.specs.Work.{work_refusal}
use Rattle.road_layout.specs.Road.{junctions, road_count, road_at, roads_to, roads}
use Rattle.road_layout.specs.Layout.{after, road_ok, roads_ok, road_layout_refusal}
use Rattle.adjacency.specs.Arcs.{along, back, arcs, net}
use Rattle.road.specs.Dijkstra.{at, walked, score, nearer, pick_nearest, shorten, relax_arc, relax, walk_on, round_at, rounds, start_walk, walk_from, distances, dist}
use Rattle.road.specs.Refusal.{all_reached, road_refusal}
use Rattle.yard.specs.Yards.{yards_size, yard_place, yard_kind, kinds_set, kinds_from, kind_table, kind_of}
use Rattle.yard.specs.Yards.{yard_count, yard_at, yards_from, yards_of, yards_rise, inside, yard_body_refusal, yard_refusal, yard_refusal_in}
use Rattle.tree_layout.specs.Sizes.{fields_size, element_size, list_size, leaf_mark_size}
use Rattle.tree_layout.specs.Values.{first_distance, last_from, leaf_mark, inner_mark, no_region, region_at}
use Rattle.tree_layout.specs.Decode.{element_at, read_list, list_part, read_lists, read_spans, read_marks, mark_size, record_size, size_at, read_region, read_regions}
use Rattle.tree_layout.specs.Decode.{junction_count, region_count, tree_yard_count as tree_layout-yardCount, landmark_count, decode}
use Rattle.tree_layout.specs.Refusal.{between, all, records_ok, element_ok, comes, rises_from, list_rises as tree_layout-rises, list_ok, mark_ok, children_ok, region_ok}
use Rattle.tree_layout.specs.Refusal.{values_ok, tree_layout_refusal as tree_layout-layoutRefusal}
use Rattle.tree_leaf.specs.Leaf.{yards_in, names, once, in_range, named_by, first_list, same_yards, agreeing, leaf_ok}
use Rattle.tree.specs.Shape.{child_fits, siblings, subtree, shaped, tree_refusal}
use Rattle.tree.specs.Yards.{end_of, level_by, own_yards, leaf_yards_from as tree-yardsFrom, yards_below, tree_yards}
use Rattle.check_rules.specs.Truth.{least_distance_from, least, greatest_from, greatest, true_element, true_list, true_span, true_region, true_from, true_tree}
use Rattle.check_rules.specs.Truth.{kinds_element, kinds_list, kinds_region, kinds_from as tree-kindsFrom, kinds_tree}
use Rattle.check_tree.specs.Check.{has, same_set, tree_refusal_beside, check_answer}

-- "junctions 0 to 4 in a chain, seconds 2, 3, 4, 1; yards 1, 3, 4"
unfoldable pub road_n : List ℕ
road_n = 0 ∷ 0 ∷ 0 ∷ 29 ∷ 1 ∷ 0 ∷ 5 ∷ 0 ∷ 4 ∷ 0 ∷ 0 ∷ 0 ∷ 1 ∷ 0 ∷ 2 ∷ 0 ∷ 1 ∷ 0 ∷ 2 ∷ 0 ∷ 3 ∷ 0 ∷ 2 ∷ 0 ∷ 3 ∷ 0 ∷ 4 ∷ 0 ∷ 3 ∷ 0 ∷ 4 ∷ 0 ∷ 1 ∷ []

unfoldable pub yard_n : List ℕ
yard_n = 0 ∷ 0 ∷ 0 ∷ 9 ∷ 1 ∷ 0 ∷ 3 ∷ 0 ∷ 1 ∷ 0 ∷ 3 ∷ 0 ∷ 4 ∷ []

-- the same yards with kinds 1, 2 and 4, in version 2
unfoldable pub yard_kinds : List ℕ
yard_kinds = 0 ∷ 0 ∷ 0 ∷ 12 ∷ 2 ∷ 0 ∷ 3 ∷ 0 ∷ 1 ∷ 1 ∷ 0 ∷ 3 ∷ 2 ∷ 0 ∷ 4 ∷ 4 ∷ []

-- its tree passes
pub net_n_lem : check_answer road_n yard_n net_n 16384 ≡ 0
unfolding net_n net_kinds road_n yard_n yard_kinds version kind_size kind_at together_from together yards_size yard_place yard_kind kinds_set kinds_from kind_table kind_of fields_size element_size
    list_size leaf_mark_size kinds_element kinds_list kinds_region tree-kindsFrom kinds_tree choose refuse first_of u8_at u16_at u32_at open_refusal work_refusal junctions road_count road_at roads_to roads after road_ok roads_ok
    road_layout_refusal along back arcs net at walked score nearer pick_nearest shorten relax_arc relax walk_on round_at rounds start_walk walk_from distances dist
    all_reached
    road_refusal yard_count yard_at yards_from yards_of yards_rise inside yard_body_refusal yard_refusal yard_refusal_in first_distance last_from leaf_mark inner_mark no_region
    region_at element_at read_list list_part read_lists read_spans read_marks mark_size record_size size_at read_region read_regions junction_count region_count
    tree_layout-yardCount landmark_count decode between all records_ok element_ok comes rises_from tree_layout-rises list_ok mark_ok children_ok region_ok values_ok
    tree_layout-layoutRefusal yards_in names once in_range named_by first_list same_yards agreeing leaf_ok child_fits siblings subtree shaped tree_refusal end_of
    level_by own_yards tree-yardsFrom yards_below tree_yards least_distance_from least greatest_from greatest true_element true_list true_span true_region true_from
    true_tree has
    same_set tree_refusal_beside check_answer
net_n_lem = refl

-- a distance one too small is a 9, also with a short work area
pub net_n_small : check_answer road_n yard_n (set net_n 30 8) 16383 ≡ 9
unfolding net_n net_kinds road_n yard_n yard_kinds version kind_size kind_at together_from together yards_size yard_place yard_kind kinds_set kinds_from kind_table kind_of fields_size element_size
    list_size leaf_mark_size kinds_element kinds_list kinds_region tree-kindsFrom kinds_tree choose refuse first_of u8_at u16_at u32_at open_refusal work_refusal junctions road_count road_at roads_to roads after road_ok roads_ok
    road_layout_refusal along back arcs net at walked score nearer pick_nearest shorten relax_arc relax walk_on round_at rounds start_walk walk_from distances dist
    all_reached
    road_refusal yard_count yard_at yards_from yards_of yards_rise inside yard_body_refusal yard_refusal yard_refusal_in first_distance last_from leaf_mark inner_mark no_region
    region_at element_at read_list list_part read_lists read_spans read_marks mark_size record_size size_at read_region read_regions junction_count region_count
    tree_layout-yardCount landmark_count decode between all records_ok element_ok comes rises_from tree_layout-rises list_ok mark_ok children_ok region_ok values_ok
    tree_layout-layoutRefusal yards_in names once in_range named_by first_list same_yards agreeing leaf_ok child_fits siblings subtree shaped tree_refusal end_of
    level_by own_yards tree-yardsFrom yards_below tree_yards least_distance_from least greatest_from greatest true_element true_list true_span true_region true_from
    true_tree has
    same_set tree_refusal_beside check_answer
net_n_small = refl

-- beside the yard book with kinds its tree with kinds passes; a region's byte with a bit too many is a 9, and so are a yard's that is not the yard book's and
-- those of the version 1 tree
pub net-kinds : map (λ b. check_answer road_n yard_kinds b 16384) (net_kinds ∷ set net_kinds 19 15 ∷ set net_kinds 28 3 ∷ net_n ∷ []) ≡ 0 ∷ 9 ∷ 9 ∷ 9 ∷ []
unfolding net_n net_kinds road_n yard_n yard_kinds version kind_size kind_at together_from together yards_size yard_place yard_kind kinds_set kinds_from kind_table kind_of fields_size element_size
    list_size leaf_mark_size kinds_element kinds_list kinds_region tree-kindsFrom kinds_tree choose refuse first_of u8_at u16_at u32_at open_refusal work_refusal junctions road_count road_at roads_to roads after road_ok roads_ok
    road_layout_refusal along back arcs net at walked score nearer pick_nearest shorten relax_arc relax walk_on round_at rounds start_walk walk_from distances dist
    all_reached
    road_refusal yard_count yard_at yards_from yards_of yards_rise inside yard_body_refusal yard_refusal yard_refusal_in first_distance last_from leaf_mark inner_mark no_region
    region_at element_at read_list list_part read_lists read_spans read_marks mark_size record_size size_at read_region read_regions junction_count region_count
    tree_layout-yardCount landmark_count decode between all records_ok element_ok comes rises_from tree_layout-rises list_ok mark_ok children_ok region_ok values_ok
    tree_layout-layoutRefusal yards_in names once in_range named_by first_list same_yards agreeing leaf_ok child_fits siblings subtree shaped tree_refusal end_of
    level_by own_yards tree-yardsFrom yards_below tree_yards least_distance_from least greatest_from greatest true_element true_list true_span true_region true_from
    true_tree has
    same_set tree_refusal_beside check_answer
net-kinds = refl
