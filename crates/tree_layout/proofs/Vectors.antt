-- Test 1 to 5 on worked examples: net N's tree of 01, a tree of five regions over the same net, net N's tree with kinds, and these with a byte changed.
-- Assumes nothing.
use mathlib.Core.Path.{◌≡◌, refl}
use mathlib.Core.List.{List, [], ◌∷◌, ◌++◌, map}
use Prim.Native.Nat.{ℕ}
use lib.ListN.{set, take}
use Rattle.book.specs.Choose.{choose, refuse, first_of}
use Rattle.book.specs.Bytes.{u8_at, u16_at, u32_at}
use Rattle.book.specs.Open.{version, open_refusal}
use Rattle.kinds.specs.Kinds.{kind_size, kind_at}
use Rattle.tree_layout.specs.Sizes.{fields_size, element_size, list_size, leaf_mark_size}
use Rattle.tree_layout.specs.Values.{leaf_mark, inner_mark, first_distance, last_from}
use Rattle.tree_layout.specs.Decode.{element_at, read_list, list_part, read_lists, read_spans, read_marks, mark_size, record_size, size_at, read_region}
use Rattle.tree_layout.specs.Decode.{read_regions, junction_count, region_count, tree_yard_count, landmark_count, decode}
use Rattle.tree_layout.specs.Refusal.{between, all, records_ok, element_ok, comes, rises_from, list_rises, list_ok, mark_ok, children_ok, region_ok, values_ok}
use Rattle.tree_layout.specs.Refusal.{tree_layout_refusal}

-- net N's tree, as 01 prints it
unfoldable pub net_n : List ℕ
net_n = 0 ∷ 0 ∷ 0 ∷ 35 ∷ 1 ∷ 0 ∷ 5 ∷ 0 ∷ 1 ∷ 0 ∷ 3 ∷ 1 ∷ 0 ∷ 0 ∷ 0 ∷ 5 ∷ 0 ∷ 0 ∷ 3 ∷ 0 ∷ 0 ∷ 0 ∷ 0 ∷ 0 ∷ 2 ∷ 0 ∷ 1 ∷ 0 ∷ 0 ∷ 0 ∷ 9 ∷ 0 ∷ 3 ∷ 0 ∷ 0 ∷ 0 ∷ 10 ∷ 0
    ∷ 4 ∷ []

-- a tree of the same net with leaf limit 1: a root, a leaf, an inner region with two leaves
unfoldable pub five_regions : List ℕ
five_regions = 0 ∷ 0 ∷ 0 ∷ 87 ∷ 1 ∷ 0 ∷ 5 ∷ 0 ∷ 5 ∷ 0 ∷ 3 ∷ 1 ∷ 0 ∷ 0 ∷ 0 ∷ 5 ∷ 2 ∷ 0 ∷ 3 ∷ 0 ∷ 0 ∷ 0 ∷ 0 ∷ 0 ∷ 2 ∷ 0 ∷ 0 ∷ 0 ∷ 10 ∷ 0 ∷ 1 ∷ 0 ∷ 2 ∷ 0 ∷ 0 ∷ 1 ∷
    0 ∷ 1 ∷ 0 ∷ 0 ∷ 0 ∷ 0 ∷ 0 ∷ 1 ∷ 0 ∷ 3 ∷ 0 ∷ 5 ∷ 2 ∷ 0 ∷ 2 ∷ 0 ∷ 3 ∷ 0 ∷ 0 ∷ 0 ∷ 0 ∷ 0 ∷ 0 ∷ 0 ∷ 1 ∷ 0 ∷ 3 ∷ 0 ∷ 4 ∷ 0 ∷ 0 ∷ 1 ∷ 0 ∷ 3 ∷ 0 ∷ 0 ∷ 0 ∷ 0 ∷ 0 ∷
    3 ∷ 0 ∷ 4 ∷ 0 ∷ 5 ∷ 0 ∷ 0 ∷ 1 ∷ 0 ∷ 4 ∷ 0 ∷ 0 ∷ 0 ∷ 0 ∷ 0 ∷ 4 ∷ []

-- net N's tree in version 2, where yards 1, 3 and 4 have the kinds 1, 2 and 4
unfoldable pub net_kinds : List ℕ
net_kinds = 0 ∷ 0 ∷ 0 ∷ 39 ∷ 2 ∷ 0 ∷ 5 ∷ 0 ∷ 1 ∷ 0 ∷ 3 ∷ 1 ∷ 0 ∷ 0 ∷ 0 ∷ 5 ∷ 0 ∷ 0 ∷ 3 ∷ 7 ∷ 0 ∷ 0 ∷ 0 ∷ 0 ∷ 0 ∷ 2 ∷ 0 ∷ 1 ∷ 1 ∷ 0 ∷ 0 ∷ 0 ∷ 9 ∷ 0 ∷ 3 ∷ 2 ∷ 0 ∷ 0
    ∷ 0 ∷ 10 ∷ 0 ∷ 4 ∷ 4 ∷ []

-- unchanged
pub row0 : map tree_layout_refusal ((net_n) ∷ (five_regions) ∷ (net_kinds) ∷ []) ≡ 0 ∷ 0 ∷ 0 ∷ []
unfolding net_n five_regions net_kinds choose refuse first_of u8_at u16_at u32_at version open_refusal kind_size kind_at fields_size element_size list_size leaf_mark_size
    leaf_mark inner_mark first_distance last_from element_at read_list list_part read_lists read_spans read_marks mark_size record_size size_at read_region read_regions
    junction_count region_count tree_yard_count landmark_count decode between all records_ok element_ok comes rises_from list_rises list_ok mark_ok children_ok region_ok
    values_ok tree_layout_refusal
row0 = refl

-- 1: nothing; four bytes; a count too low, too high
pub row1 : map tree_layout_refusal (([]) ∷ (0 ∷ 0 ∷ 0 ∷ 0 ∷ []) ∷ (set five_regions 3 86) ∷ (set five_regions 3 88) ∷ []) ≡ 1 ∷ 1 ∷ 1 ∷ 1 ∷ []
unfolding net_n five_regions net_kinds choose refuse first_of u8_at u16_at u32_at version open_refusal kind_size kind_at fields_size element_size list_size leaf_mark_size
    leaf_mark inner_mark first_distance last_from element_at read_list list_part read_lists read_spans read_marks mark_size record_size size_at read_region read_regions
    junction_count region_count tree_yard_count landmark_count decode between all records_ok element_ok comes rises_from list_rises list_ok mark_ok children_ok region_ok
    values_ok tree_layout_refusal
row1 = refl

-- 2: versions 0 and 3
pub row2 : map tree_layout_refusal ((set five_regions 4 0) ∷ (set five_regions 4 3) ∷ (set net_kinds 4 3) ∷ []) ≡ 2 ∷ 2 ∷ 2 ∷ []
unfolding net_n five_regions net_kinds choose refuse first_of u8_at u16_at u32_at version open_refusal kind_size kind_at fields_size element_size list_size leaf_mark_size
    leaf_mark inner_mark first_distance last_from element_at read_list list_part read_lists read_spans read_marks mark_size record_size size_at read_region read_regions
    junction_count region_count tree_yard_count landmark_count decode between all records_ok element_ok comes rises_from list_rises list_ok mark_ok children_ok region_ok
    values_ok tree_layout_refusal
row2 = refl

-- 3: eleven bytes; junctions 0 and 1,025; no region, 512; no yard, 257; no landmark, 5
pub row3 : map tree_layout_refusal ((take 11 (set five_regions 3 7)) ∷ (set five_regions 6 0) ∷ (set (set five_regions 5 4) 6 1) ∷ (set five_regions 8 0) ∷ (set (set
    five_regions 7 2) 8 0) ∷ (set five_regions 10 0) ∷ (set (set five_regions 9 1) 10 1) ∷ (set five_regions 11 0) ∷ (set five_regions 11 5) ∷ [])
    ≡ 3 ∷ 3 ∷ 3 ∷ 3 ∷ 3 ∷ 3 ∷ 3 ∷ 3 ∷ 3 ∷ []
unfolding net_n five_regions net_kinds choose refuse first_of u8_at u16_at u32_at version open_refusal kind_size kind_at fields_size element_size list_size leaf_mark_size
    leaf_mark inner_mark first_distance last_from element_at read_list list_part read_lists read_spans read_marks mark_size record_size size_at read_region read_regions
    junction_count region_count tree_yard_count landmark_count decode between all records_ok element_ok comes rises_from list_rises list_ok mark_ok children_ok region_ok
    values_ok tree_layout_refusal
row3 = refl

-- 4: a byte too few, one too many; a bad value before it is still a 4; a region more than there is, one less
pub row4 : map tree_layout_refusal ((take 90 (set five_regions 3 86)) ∷ (set five_regions 3 88 ++ (0 ∷ [])) ∷ (set (take 90 (set five_regions 3 86)) 16 1) ∷ (set
    five_regions 8 6) ∷ (set five_regions 8 4) ∷ []) ≡ 4 ∷ 4 ∷ 4 ∷ 4 ∷ 4 ∷ []
unfolding net_n five_regions net_kinds choose refuse first_of u8_at u16_at u32_at version open_refusal kind_size kind_at fields_size element_size list_size leaf_mark_size
    leaf_mark inner_mark first_distance last_from element_at read_list list_part read_lists read_spans read_marks mark_size record_size size_at read_region read_regions
    junction_count region_count tree_yard_count landmark_count decode between all records_ok element_ok comes rises_from list_rises list_ok mark_ok children_ok region_ok
    values_ok tree_layout_refusal
row4 = refl

-- 5: one child, five; an empty range; a range past the junctions; a landmark outside; a far distance; least above greatest; a list that does not rise, one that
-- stays
pub row5 : map tree_layout_refusal ((set five_regions 16 1) ∷ (set five_regions 16 5) ∷ (set five_regions 32 1) ∷ (set five_regions 15 6) ∷ (set five_regions 37 2) ∷
    (set
    five_regions 38 4) ∷ (set five_regions 24 255) ∷ (set net_n 30 1) ∷ (set (set net_n 30 2) 32 1) ∷ []) ≡ 5 ∷ 5 ∷ 5 ∷ 5 ∷ 5 ∷ 5 ∷ 5 ∷ 5 ∷ 5 ∷ []
unfolding net_n five_regions net_kinds choose refuse first_of u8_at u16_at u32_at version open_refusal kind_size kind_at fields_size element_size list_size leaf_mark_size
    leaf_mark inner_mark first_distance last_from element_at read_list list_part read_lists read_spans read_marks mark_size record_size size_at read_region read_regions
    junction_count region_count tree_yard_count landmark_count decode between all records_ok element_ok comes rises_from list_rises list_ok mark_ok children_ok region_ok
    values_ok tree_layout_refusal
row5 = refl

-- an inner region's greatest may be any u32
pub row6 : map tree_layout_refusal ((set five_regions 25 255) ∷ []) ≡ 0 ∷ []
unfolding net_n five_regions net_kinds choose refuse first_of u8_at u16_at u32_at version open_refusal kind_size kind_at fields_size element_size list_size leaf_mark_size
    leaf_mark inner_mark first_distance last_from element_at read_list list_part read_lists read_spans read_marks mark_size record_size size_at read_region read_regions
    junction_count region_count tree_yard_count landmark_count decode between all records_ok element_ok comes rises_from list_rises list_ok mark_ok children_ok region_ok
    values_ok tree_layout_refusal
row6 = refl

-- a version 1 tree read as version 2, and one of version 2 read as version 1, are too short and too long
pub row7 : map tree_layout_refusal ((set net_n 4 2) ∷ (set net_kinds 4 1) ∷ []) ≡ 4 ∷ 4 ∷ []
unfolding net_n five_regions net_kinds choose refuse first_of u8_at u16_at u32_at version open_refusal kind_size kind_at fields_size element_size list_size leaf_mark_size
    leaf_mark inner_mark first_distance last_from element_at read_list list_part read_lists read_spans read_marks mark_size record_size size_at read_region read_regions
    junction_count region_count tree_yard_count landmark_count decode between all records_ok element_ok comes rises_from list_rises list_ok mark_ok children_ok region_ok
    values_ok tree_layout_refusal
row7 = refl

-- 5: a kind byte of 0, of the region, of the first element and of the last
pub row8 : map tree_layout_refusal ((set net_kinds 19 0) ∷ (set net_kinds 28 0) ∷ (set net_kinds 42 0) ∷ []) ≡ 5 ∷ 5 ∷ 5 ∷ []
unfolding net_n five_regions net_kinds choose refuse first_of u8_at u16_at u32_at version open_refusal kind_size kind_at fields_size element_size list_size leaf_mark_size
    leaf_mark inner_mark first_distance last_from element_at read_list list_part read_lists read_spans read_marks mark_size record_size size_at read_region read_regions
    junction_count region_count tree_yard_count landmark_count decode between all records_ok element_ok comes rises_from list_rises list_ok mark_ok children_ok region_ok
    values_ok tree_layout_refusal
row8 = refl

-- the tree that the book with kinds holds
pub kinds_read : decode net_kinds ≡ record {
  version = 2;
  junctions = 5;
  yards = 3;
  landmarks = 1;
  regions = record {
    first = 0;
    after = 5;
    children = 0;
    yards = 3;
    kinds = 7;
    marks = record {
      place = 0;
      least = 2;
      greatest = 10;
      list = record { distance = 2; yard = 1; kinds = 1 } ∷ record { distance = 9; yard = 3; kinds = 2 } ∷ record {
        distance = 10;
        yard = 4;
        kinds = 4;
      } ∷ [];
    } ∷ [];
  } ∷ [];
}
unfolding net_n five_regions net_kinds choose refuse first_of u8_at u16_at u32_at version open_refusal kind_size kind_at fields_size element_size list_size leaf_mark_size
    leaf_mark inner_mark first_distance last_from element_at read_list list_part read_lists read_spans read_marks mark_size record_size size_at read_region read_regions
    junction_count region_count tree_yard_count landmark_count decode between all records_ok element_ok comes rises_from list_rises list_ok mark_ok children_ok region_ok
    values_ok tree_layout_refusal
kinds_read = refl
