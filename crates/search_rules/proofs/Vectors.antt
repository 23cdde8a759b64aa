-- The definitions run: 01's starred examples, and each rule for ties. Assumes nothing.
use mathlib.Core.Path.{◌≡◌, refl}
use mathlib.Core.Bool.{true, false}
use mathlib.Core.List.{List, [], ◌∷◌}
use Prim.Native.Nat.{ℕ}
use lib.ListN.{get_or}
use Rattle.book.specs.Choose.{choose}
use Rattle.book.specs.Lists.{keep_if}
use Rattle.tree_layout.specs.Values.{leaf_mark, inner_mark, first_distance, last_from, no_region, region_at}
use Rattle.tree_layout.specs.Refusal.{all}
use Rattle.search_rules.specs.Order.{yard_first}
use Rattle.search_rules.specs.Rule.{nearest}
use Rattle.search_rules.specs.Keeping.{keep, enough, keep_by, enough_by}
use Rattle.tree_leaf.specs.Leaf.{names, once, in_range, named_by, first_list, agreeing, same_yards, leaf_ok}
use Rattle.tree.specs.Shape.{siblings, subtree}
use Rattle.tree.specs.Yards.{end_of, starts, children_of}
use Rattle.search_rules.specs.Instance.{Instance, size, children, marks, leaf}
use Rattle.search_rules.specs.Bounds.{abs_diff, combine, aggregate, greatest_of, least_from, least_of, crew_bound, table_at, lower, upper, over, total, furthest}
use Rattle.search_rules.specs.Bounds.{mark_bound}
use Rattle.search_rules.specs.Bounds.{bound, weight, best, best_of, chosen, list_abs_diff, f, yard_bound}
use Rattle.tree_layout.specs.Values.{no_mark}
use Rattle.search_rules.specs.Queue.{queued, word_at, pick}
use Rattle.search_rules.specs.Held.{insert, hold, last_distance, greatest_held, entry}
use Rattle.search_rules.specs.Step.{left, no_element, again_key, passed, waiting, next_place, next_f, queue_children, open_inner, queue_next, close_leaf}
use Rattle.search_rules.specs.Step.{open_leaf}
use Rattle.search_rules.specs.Step.{take_region, take_yard, next_region, next_yard, least_key, step, settled, root_keys, start_search}
use Rattle.search_rules.specs.Run.{words, advance, run, report, answer}
use Rattle.search_rules.specs.Examples.{on_chain, at, leaf_of, three, from0, from2}
use Rattle.search_rules.specs.Step.{take_leaf}
use Rattle.search_rules.specs.Bounds.{picked, two_way_bound, two_way_yard_bound}

-- ---- nets that are chains

-- net N: "junctions 0 to 4 in a chain, seconds 2, 3, 4, 1; yards 1, 3, 4; m 1, leaf limit 3"
unfoldable pub net_n : ℕ → ℕ → List ℕ → Instance
net_n code goal crews =
    let list = at 2 1 ∷ at 9 3 ∷ at 10 4 ∷ [] in
    on_chain (0 ∷ 2 ∷ 5 ∷ 9 ∷ 10 ∷ []) code goal crews 3 (leaf_of 0 5 (leaf_mark 0 list ∷ []) list ∷ [])

-- "One junction, no road, yard 0, crew 0"
unfoldable pub one_junction : Instance
one_junction = on_chain (0 ∷ []) 0 2 (0 ∷ []) 1 (leaf_of 0 1 (leaf_mark 0 (at 0 0 ∷ []) ∷ []) (at 0 0 ∷ []) ∷ [])

-- a chain of eight, seconds 1, 2, 3, 1, 2, 3, 1; yards 1 and 2 in one leaf, 5 and 7 in another
unfoldable pub eight : List ℕ → Instance
eight crews = on_chain (0 ∷ 1 ∷ 3 ∷ 6 ∷ 7 ∷ 9 ∷ 12 ∷ 13 ∷ []) 0 2 crews 4
    (record { first = 0; after = 8; children = 2; yards = 4; kinds = 255; marks = inner_mark 0 1 13 ∷ [] }
    ∷ leaf_of 0 4 (leaf_mark 3 (at 3 2 ∷ at 5 1 ∷ []) ∷ []) (at 3 2 ∷ at 5 1 ∷ [])
    ∷ leaf_of 4 8 (leaf_mark 4 (at 2 5 ∷ at 6 7 ∷ []) ∷ []) (at 2 5 ∷ at 6 7 ∷ []) ∷ [])

unfoldable pub two_leaves : Instance
two_leaves = eight (0 ∷ 6 ∷ [])

-- what an answer has: 1 if settled, else 0; the words written; taken; measured
unfoldable pub row : Instance → ℕ → List ℕ
row i limit = let a = answer i limit in choose a.settled 1 0 ∷ a.taken ∷ a.measured ∷ words a.listed

-- ---- searches

-- 01's starred searches, in its order: the listing; limit 3 is spent; maximum, k 1; crews 0 and 0, k 1; k 64; one junction; chain of three
pub starred : row (net_n 0 2 (0 ∷ 2 ∷ [])) 4 ∷ row (net_n 0 2 (0 ∷ 2 ∷ [])) 3
    ∷ row (net_n 1 1 (0 ∷ 2 ∷ [])) 6 ∷ row (net_n 0 1 (0 ∷ 0 ∷ [])) 6 ∷ row (net_n 0 64 (0 ∷ 2 ∷ [])) 6
    ∷ row one_junction 6 ∷ row (three (from0 ∷ [])) 6 ∷ []
    ≡ (1 ∷ 4 ∷ 2 ∷ 1 ∷ 5 ∷ 3 ∷ 13 ∷ []) ∷ (0 ∷ 3 ∷ 1 ∷ [])
    ∷ (1 ∷ 2 ∷ 1 ∷ 1 ∷ 3 ∷ []) ∷ (1 ∷ 2 ∷ 1 ∷ 1 ∷ 4 ∷ []) ∷ (1 ∷ 6 ∷ 3 ∷ 1 ∷ 5 ∷ 3 ∷ 13 ∷ 4 ∷ 15 ∷ [])
    ∷ (1 ∷ 2 ∷ 1 ∷ 0 ∷ 0 ∷ []) ∷ (1 ∷ 4 ∷ 2 ∷ 0 ∷ 1 ∷ []) ∷ []
unfolding row on_chain at leaf_of net_n one_junction three from0 from2 two_leaves eight choose leaf_mark inner_mark first_distance last_from no_region region_at all
    yard_first keep enough keep_by enough_by names once in_range named_by first_list agreeing same_yards leaf_ok siblings subtree end_of starts children_of size keep_if children marks leaf
    abs_diff combine aggregate greatest_of least_from least_of crew_bound no_mark table_at lower upper over total furthest mark_bound bound weight best best_of chosen
    list_abs_diff f yard_bound queued word_at pick insert hold last_distance greatest_held entry left no_element again_key passed waiting next_place next_f queue_children open_inner
    queue_next close_leaf open_leaf take_region take_yard next_region next_yard least_key step settled root_keys start_search words advance run report answer two_way_bound picked two_way_yard_bound take_leaf
starred = refl

-- limit 0 is spent with no step taken; a tree of two leaves, where yards 1, 2 and 5 tie at 12 and the furthest crew is 11, 9 and 9 away: 2 and 5 are held, and
-- under a limit of one step less it is spent
pub limits : row (net_n 0 2 (0 ∷ 2 ∷ [])) 0 ∷ row two_leaves 9 ∷ row two_leaves 7 ∷ []
    ≡ (0 ∷ 0 ∷ 0 ∷ []) ∷ (1 ∷ 8 ∷ 3 ∷ 2 ∷ 12 ∷ 5 ∷ 12 ∷ []) ∷ (0 ∷ 7 ∷ 2 ∷ []) ∷ []
unfolding row on_chain at leaf_of net_n one_junction three from0 from2 two_leaves eight choose leaf_mark inner_mark first_distance last_from no_region region_at all
    yard_first keep enough keep_by enough_by names once in_range named_by first_list agreeing same_yards leaf_ok siblings subtree end_of starts children_of size keep_if children marks leaf
    abs_diff combine aggregate greatest_of least_from least_of crew_bound no_mark table_at lower upper over total furthest mark_bound bound weight best best_of chosen
    list_abs_diff f yard_bound queued word_at pick insert hold last_distance greatest_held entry left no_element again_key passed waiting next_place next_f queue_children open_inner
    queue_next close_leaf open_leaf take_region take_yard next_region next_yard least_key step settled root_keys start_search words advance run report answer two_way_bound picked two_way_yard_bound take_leaf
limits = refl

-- ---- bounds

-- "LB 12, B 9: bound 3." "UB 4, A 9: bound 5." "LB 5, UB 20, A 9, B 12: bound 0." LB is asked first, at LB = B too, which tells only of numbers that no sheet
-- has: LB 9 is above UB 4.
pub bounds : crew_bound 12 20 9 9 ∷ crew_bound 4 4 9 12 ∷ crew_bound 5 20 9 12 ∷ crew_bound 9 4 9 9 ∷ [] ≡ 3 ∷ 5 ∷ 0 ∷ 0 ∷ []
unfolding crew_bound choose
bounds = refl

-- Region bounds on the chain of eight: of crews 0 and 6 for the root and the two leaves; of crew 4, which is at the second leaf's landmark (LB 0, UB 14, A 2, B
-- 6)
pub regions : bound two_leaves 0 ∷ bound two_leaves 1 ∷ bound two_leaves 2 ∷ bound (eight (4 ∷ [])) 2 ∷ [] ≡ 1 ∷ 2 ∷ 1 ∷ 0 ∷ []
unfolding on_chain at leaf_of two_leaves eight choose leaf_mark inner_mark first_distance last_from no_region region_at marks abs_diff combine aggregate greatest_of
    least_from least_of crew_bound table_at lower upper over mark_bound bound two_way_bound
regions = refl

-- crews whose distances from every landmark are 5, 5 and 10
unfoldable pub crews_at : Instance
crews_at = record {
  code = 0;
  rule = nearest 1;
  crews = 1 ∷ 1 ∷ 2 ∷ [];
  tree = record { version = 1; junctions = 3; yards = 0; landmarks = 1; regions = [] };
  d = λ u v. get_or (0 ∷ 5 ∷ 10 ∷ []) v 0;
  admits = λ r. true;
  wants = λ y. true;
  one_way = false;
  towards = λ r. [];
  back = λ y. 0;
}

-- "Crew values 5, 5, 10 and list 4, 7: f is 8 and 7."
pub both_sides : f crews_at no_mark (at 4 0) ∷ f crews_at no_mark (at 7 0) ∷ [] ≡ 8 ∷ 7 ∷ []
unfolding crews_at at no_mark f over aggregate combine list_abs_diff abs_diff choose
both_sides = refl

-- ---- ties

-- What has left or is measured after a step or two: on the chain of three both elements have one f, and the first by place leaves first; of two
-- landmarks of one weight the first is chosen; at equal keys the region goes before the yard, so the second step measures none; of three yards
-- queued at 12 the lowest number is measured first.
pub ties : (run (three (from0 ∷ [])) 1).state.gone ∷ (run (three (from2 ∷ from0 ∷ [])) 1).state.gone ∷ []
    ≡ (true ∷ false ∷ false ∷ []) ∷ (false ∷ false ∷ true ∷ []) ∷ []
unfolding on_chain at leaf_of three from0 from2 choose leaf_mark inner_mark first_distance last_from no_region region_at all yard_first keep enough keep_by enough_by names once in_range
    named_by first_list agreeing same_yards leaf_ok siblings subtree end_of starts children_of size keep_if children marks leaf abs_diff combine aggregate greatest_of
    least_from least_of crew_bound no_mark table_at lower upper over total furthest mark_bound bound weight best best_of chosen list_abs_diff f yard_bound queued word_at pick
    insert hold last_distance greatest_held entry left no_element again_key passed waiting next_place next_f queue_children open_inner queue_next close_leaf open_leaf take_region take_yard
    next_region next_yard least_key step settled root_keys start_search advance run two_way_bound picked two_way_yard_bound take_leaf
ties = refl

pub orders : (run (three (from0 ∷ [])) 2).state.measured ∷ (run two_leaves 6).state.measured ∷ [] ≡ [] ∷ (1 ∷ []) ∷ []
unfolding on_chain at leaf_of three from0 from2 two_leaves eight choose leaf_mark inner_mark first_distance last_from no_region region_at all yard_first keep enough keep_by enough_by
    names once in_range named_by first_list agreeing same_yards leaf_ok siblings subtree end_of starts children_of size keep_if children marks leaf abs_diff combine aggregate
    greatest_of least_from least_of crew_bound no_mark table_at lower upper over total furthest mark_bound bound weight best best_of chosen list_abs_diff f yard_bound queued
    word_at pick insert hold last_distance greatest_held entry left no_element again_key passed waiting next_place next_f queue_children open_inner queue_next close_leaf open_leaf take_region
    take_yard next_region next_yard least_key step settled root_keys start_search advance run two_way_bound picked two_way_yard_bound take_leaf
orders = refl
