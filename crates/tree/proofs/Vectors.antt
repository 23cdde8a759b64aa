-- The refusals of a tree book on worked examples: net N's tree of 01, a tree of five regions, one of two landmarks, net N's tree with kinds, trees of eight
-- and of nine levels. Assumes nothing.
use mathlib.Core.Path.{◌≡◌, refl}
use mathlib.Core.List.{List, [], ◌∷◌, ◌++◌, map}
use Prim.Native.Nat.{ℕ, zero, suc, ◌+◌, ◌*◌, ◌/◌, ◌%◌}
use lib.ListN.{set, take}
use Rattle.book.specs.Choose.{choose, refuse, first_of}
use Rattle.book.specs.Bytes.{u8_at, u16_at, u32_at}
use Rattle.book.specs.Open.{version, open_refusal}
use Rattle.kinds.specs.Kinds.{kind_size, kind_at}
use Rattle.tree_layout.specs.Sizes.{fields_size, element_size, list_size, leaf_mark_size}
use Rattle.tree_layout.specs.Values.{leaf_mark, inner_mark, first_distance, last_from, no_region, region_at}
use Rattle.tree_layout.specs.Decode.{element_at, read_list, list_part, read_lists, read_spans, read_marks, mark_size, record_size, size_at, read_region, read_regions}
use Rattle.tree_layout.specs.Decode.{junction_count, region_count, tree_yard_count, landmark_count, decode}
use Rattle.tree_layout.specs.Refusal.{between, all, records_ok, element_ok, comes, rises_from, list_rises, list_ok, mark_ok, children_ok, region_ok, values_ok}
use Rattle.tree_layout.specs.Refusal.{tree_layout_refusal}
use Rattle.tree_layout.proofs.Vectors.{net_n, five_regions, net_kinds}
use Rattle.tree_leaf.specs.Leaf.{names, once, in_range, named_by, first_list, same_yards, agreeing, leaf_ok}
use Rattle.tree.specs.Shape.{child_fits, siblings, subtree, shaped, tree_refusal}
use Rattle.tree_leaf.specs.Leaf.{yards_in}
use Rattle.tree.specs.Yards.{end_of, starts, children_of, own_yards, leaf_yards_from, yards_below, sum_from, one_leaf, one_inner, leaves, inners}
use Rattle.tree.specs.Yards.{kinds_in, own_list, kinds_from, kinds_of}

-- net N's tree with two landmarks, 0 and 2
unfoldable pub two_landmarks : List ℕ
two_landmarks = 0 ∷ 0 ∷ 0 ∷ 55 ∷ 1 ∷ 0 ∷ 5 ∷ 0 ∷ 1 ∷ 0 ∷ 3 ∷ 2 ∷ 0 ∷ 0 ∷ 0 ∷ 5 ∷ 0 ∷ 0 ∷ 3 ∷ 0 ∷ 0 ∷ 0 ∷ 0 ∷ 0 ∷ 2 ∷ 0 ∷ 1 ∷ 0 ∷ 0 ∷ 0 ∷ 9 ∷ 0 ∷ 3 ∷ 0 ∷ 0 ∷ 0 ∷
    10 ∷ 0 ∷ 4 ∷ 0 ∷ 2 ∷ 0 ∷ 0 ∷ 0 ∷ 3 ∷ 0 ∷ 1 ∷ 0 ∷ 0 ∷ 0 ∷ 4 ∷ 0 ∷ 3 ∷ 0 ∷ 0 ∷ 0 ∷ 5 ∷ 0 ∷ 4 ∷ []

-- a leaf of one junction, i
unfoldable pub leaf_bytes : ℕ → List ℕ
leaf_bytes i = 0 ∷ i ∷ 0 ∷ suc i ∷ 0 ∷ 0 ∷ 1 ∷ 0 ∷ i ∷ 0 ∷ 0 ∷ 0 ∷ 0 ∷ 0 ∷ i ∷ []

-- regions whose last leaf is n levels below the first, with a leaf beside each step
unfoldable pub ladder_bytes : ℕ → ℕ → List ℕ
ladder_bytes zero i = leaf_bytes i
ladder_bytes (suc n) i = (0 ∷ i ∷ 0 ∷ (i + suc (suc n)) ∷ 2 ∷ 0 ∷ suc (suc n) ∷ 0 ∷ i ∷ 0 ∷ 0 ∷ 0 ∷ 0 ∷ 0 ∷ 0 ∷ 0 ∷ 0 ∷ []) ++ (leaf_bytes i ++ ladder_bytes n
    (suc i))

-- the tree book of 2 n + 1 such regions
unfoldable pub ladder : ℕ → List ℕ
ladder n = (0 ∷ 0 ∷ ((23 + 32 * n) / 256) ∷ ((23 + 32 * n) % 256) ∷ 1 ∷ 0 ∷ suc n ∷ 0 ∷ suc (2 * n) ∷ 0 ∷ suc n ∷ 1 ∷ []) ++ ladder_bytes n 0

-- unchanged
pub row0 : map tree_refusal ((net_n) ∷ (five_regions) ∷ (two_landmarks) ∷ (net_kinds) ∷ []) ≡ 0 ∷ 0 ∷ 0 ∷ 0 ∷ []
unfolding net_n five_regions net_kinds choose refuse first_of u8_at u16_at u32_at version open_refusal kind_size kind_at fields_size element_size list_size leaf_mark_size leaf_mark inner_mark first_distance
    last_from element_at read_list list_part read_lists read_spans read_marks mark_size record_size size_at read_region read_regions junction_count region_count
    tree_yard_count landmark_count decode between all records_ok element_ok comes rises_from list_rises list_ok mark_ok children_ok region_ok values_ok tree_layout_refusal no_region region_at two_landmarks leaf_bytes ladder_bytes ladder names
    once
    in_range named_by first_list same_yards agreeing leaf_ok child_fits siblings subtree shaped tree_refusal
row0 = refl

-- the layout's refusals come first, each by its number
pub row1 : map tree_refusal (([]) ∷ (set five_regions 4 3) ∷ (set five_regions 6 0) ∷ (take 90 (set five_regions 3 86)) ∷ (set (set five_regions 10 2) 16 1) ∷ []) ≡
    1 ∷ 2 ∷ 3 ∷ 4 ∷ 5 ∷ []
unfolding net_n five_regions net_kinds choose refuse first_of u8_at u16_at u32_at version open_refusal kind_size kind_at fields_size element_size list_size leaf_mark_size leaf_mark inner_mark first_distance
    last_from element_at read_list list_part read_lists read_spans read_marks mark_size record_size size_at read_region read_regions junction_count region_count
    tree_yard_count landmark_count decode between all records_ok element_ok comes rises_from list_rises list_ok mark_ok children_ok region_ok values_ok tree_layout_refusal no_region region_at two_landmarks leaf_bytes ladder_bytes ladder names
    once
    in_range named_by first_list same_yards agreeing leaf_ok child_fits siblings subtree shaped tree_refusal
row1 = refl

-- 7: overlapping ranges; a child past its parent; a sum that is not; the header's yards; a yard outside its range; children too many, too few; a yard twice;
-- lists that differ
pub row2 : map tree_refusal ((set five_regions 45 1) ∷ (set five_regions 47 4) ∷ (set five_regions 18 2) ∷ (set five_regions 10 2) ∷ (set five_regions 75 4) ∷ (set
    five_regions 16 3) ∷ (set five_regions 48 3) ∷ (set net_n 38 3) ∷ (set two_landmarks 46 0) ∷ []) ≡ 7 ∷ 7 ∷ 7 ∷ 7 ∷ 7 ∷ 7 ∷ 7 ∷ 7 ∷ 7 ∷ []
unfolding net_n five_regions net_kinds choose refuse first_of u8_at u16_at u32_at version open_refusal kind_size kind_at fields_size element_size list_size leaf_mark_size leaf_mark inner_mark first_distance
    last_from element_at read_list list_part read_lists read_spans read_marks mark_size record_size size_at read_region read_regions junction_count region_count
    tree_yard_count landmark_count decode between all records_ok element_ok comes rises_from list_rises list_ok mark_ok children_ok region_ok values_ok tree_layout_refusal no_region region_at two_landmarks leaf_bytes ladder_bytes ladder names
    once
    in_range named_by first_list same_yards agreeing leaf_ok child_fits siblings subtree shaped tree_refusal
row2 = refl

-- eight levels pass, nine do not
pub row3 : map tree_refusal ((ladder 7) ∷ (ladder 8) ∷ []) ≡ 0 ∷ 7 ∷ []
unfolding net_n five_regions net_kinds choose refuse first_of u8_at u16_at u32_at version open_refusal kind_size kind_at fields_size element_size list_size leaf_mark_size leaf_mark inner_mark first_distance
    last_from element_at read_list list_part read_lists read_spans read_marks mark_size record_size size_at read_region read_regions junction_count region_count
    tree_yard_count landmark_count decode between all records_ok element_ok comes rises_from list_rises list_ok mark_ok children_ok region_ok values_ok tree_layout_refusal no_region region_at two_landmarks leaf_bytes ladder_bytes ladder names
    once
    in_range named_by first_list same_yards agreeing leaf_ok child_fits siblings subtree shaped tree_refusal
row3 = refl

-- the five regions' children, subtrees' ends and yards
pub children : map (children_of (decode five_regions).regions) (0 ∷ 1 ∷ 2 ∷ []) ≡ (1 ∷ 2 ∷ []) ∷ [] ∷ (3 ∷ 4 ∷ []) ∷ []
unfolding net_n five_regions net_kinds choose refuse first_of u8_at u16_at u32_at version open_refusal kind_size kind_at fields_size element_size list_size leaf_mark_size leaf_mark inner_mark first_distance
    last_from element_at read_list list_part read_lists read_spans read_marks mark_size record_size size_at read_region read_regions junction_count region_count
    tree_yard_count landmark_count decode between all records_ok element_ok comes rises_from list_rises list_ok mark_ok children_ok region_ok values_ok tree_layout_refusal no_region region_at two_landmarks leaf_bytes ladder_bytes ladder names
    once
    in_range named_by first_list same_yards agreeing leaf_ok child_fits siblings subtree shaped tree_refusal end_of starts children_of
children = refl

pub ends : map (end_of (decode five_regions).regions) (0 ∷ 1 ∷ 2 ∷ 3 ∷ 4 ∷ []) ≡ 5 ∷ 2 ∷ 5 ∷ 4 ∷ 5 ∷ []
unfolding net_n five_regions net_kinds choose refuse first_of u8_at u16_at u32_at version open_refusal kind_size kind_at fields_size element_size list_size leaf_mark_size leaf_mark inner_mark first_distance
    last_from element_at read_list list_part read_lists read_spans read_marks mark_size record_size size_at read_region read_regions junction_count region_count
    tree_yard_count landmark_count decode between all records_ok element_ok comes rises_from list_rises list_ok mark_ok children_ok region_ok values_ok tree_layout_refusal no_region region_at two_landmarks leaf_bytes ladder_bytes ladder names
    once
    in_range named_by first_list same_yards agreeing leaf_ok child_fits siblings subtree shaped tree_refusal end_of
ends = refl

pub yards : map (yards_below (decode five_regions).regions) (0 ∷ 1 ∷ 2 ∷ []) ≡ (1 ∷ 3 ∷ 4 ∷ []) ∷ (1 ∷ []) ∷ (3 ∷ 4 ∷ []) ∷ []
unfolding net_n five_regions net_kinds choose refuse first_of u8_at u16_at u32_at version open_refusal kind_size kind_at fields_size element_size list_size leaf_mark_size leaf_mark inner_mark first_distance
    last_from element_at read_list list_part read_lists read_spans read_marks mark_size record_size size_at read_region read_regions junction_count region_count
    tree_yard_count landmark_count decode between all records_ok element_ok comes rises_from list_rises list_ok mark_ok children_ok region_ok values_ok tree_layout_refusal no_region region_at two_landmarks leaf_bytes ladder_bytes ladder names
    once
    in_range named_by first_list same_yards agreeing leaf_ok child_fits siblings subtree shaped tree_refusal end_of yards_in own_yards leaf_yards_from yards_below
yards = refl

pub counts : inners (decode five_regions) ∷ leaves (decode five_regions) ∷ [] ≡ 2 ∷ 3 ∷ []
unfolding net_n five_regions net_kinds choose refuse first_of u8_at u16_at u32_at version open_refusal kind_size kind_at fields_size element_size list_size leaf_mark_size leaf_mark inner_mark first_distance
    last_from element_at read_list list_part read_lists read_spans read_marks mark_size record_size size_at read_region read_regions junction_count region_count
    tree_yard_count landmark_count decode between all records_ok element_ok comes rises_from list_rises list_ok mark_ok children_ok region_ok values_ok tree_layout_refusal no_region region_at two_landmarks leaf_bytes ladder_bytes ladder names
    once
    in_range named_by first_list same_yards agreeing leaf_ok child_fits siblings subtree shaped tree_refusal sum_from one_leaf one_inner leaves inners
counts = refl

-- the kinds of net N's yards, in version 2 and in version 1; 0 of a junction that is no yard
pub yard-kinds : map (kinds_of (decode net_kinds)) (1 ∷ 3 ∷ 4 ∷ 2 ∷ []) ++ map (kinds_of (decode net_n)) (1 ∷ 3 ∷ 4 ∷ 2 ∷ [])
    ≡ 1 ∷ 2 ∷ 4 ∷ 0 ∷ 255 ∷ 255 ∷ 255 ∷ 0 ∷ []
unfolding net_n five_regions net_kinds choose refuse first_of u8_at u16_at u32_at version open_refusal kind_size kind_at fields_size element_size list_size leaf_mark_size leaf_mark inner_mark first_distance
    last_from element_at read_list list_part read_lists read_spans read_marks mark_size record_size size_at read_region read_regions junction_count region_count
    tree_yard_count landmark_count decode between all records_ok element_ok comes rises_from list_rises list_ok mark_ok children_ok region_ok values_ok tree_layout_refusal no_region region_at two_landmarks leaf_bytes ladder_bytes ladder names
    once
    in_range named_by first_list same_yards agreeing leaf_ok child_fits siblings subtree shaped tree_refusal kinds_in own_list kinds_from kinds_of
yard-kinds = refl
