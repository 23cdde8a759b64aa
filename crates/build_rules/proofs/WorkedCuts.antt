-- Trees cut by hand from the paper: net N's comes out as 01 prints it, byte for byte; the same net with kinds, with leaf limit 1, with border junctions.
-- Assumes nothing.
use mathlib.Core.Path.{◌≡◌, refl}
use mathlib.Core.List.{List, [], ◌∷◌, map}
use Prim.Native.Nat.{ℕ, ◌+◌, ◌-◌}
use lib.ListN.{get_or}
use lib.Dec.{eqb}
use Rattle.book.specs.Choose.{choose}
use Rattle.book.specs.Writing.{u16_bytes, u32_bytes}
use Rattle.kinds.specs.Kinds.{together_from, together}
use Rattle.tree_layout.specs.Values.{Region, Tree, leaf_mark, inner_mark, first_distance, last_from}
use Rattle.tree_layout.specs.Refusal.{comes}
use Rattle.tree_layout.proofs.Vectors.{net_n, five_regions, net_kinds}
use Rattle.tree_encode.specs.Encode.{kind_bytes, encode_element, encode_list, encode_leaf_mark, encode_inner_mark, encode_mark, encode_marks, encode_region, encode_regions}
use Rattle.tree_encode.specs.Encode.{encode_body, encode}
use Rattle.check_rules.specs.Truth.{least_distance_from, least, greatest_from, greatest, within}
use Rattle.build_rules.specs.Cut.{Given, outside, leads_out, is_border, borders_from, borders, landmark, landmarks_from, landmarks_of, earlier, later}
use Rattle.build_rules.specs.Cut.{insert_element}
use Rattle.build_rules.specs.Cut.{rank_into, ranked_list, leaf_region, inner_region, cut_at, cut_part, part_count, part_regions, cut, cut_tree}

-- net N's distances from junction 0: "junctions 0 to 4 in a chain, seconds 2, 3, 4, 1"
unfoldable pub chain : List ℕ
chain = 0 ∷ 2 ∷ 5 ∷ 9 ∷ 10 ∷ []

-- the kinds of its yards 1, 3 and 4: 255 in version 1, else 1, 2 and 4
unfoldable pub kinds_n : (version yard : ℕ) → ℕ
kinds_n version yard = choose (eqb version 1) 255 (get_or (0 ∷ 1 ∷ 0 ∷ 2 ∷ 4 ∷ []) yard 0)

-- net N of a version with a leaf limit
unfoldable pub given_n : (version limit : ℕ) → Given
given_n version limit = record {
  version = version;
  roads = record { low = 0; high = 1; seconds = 2 } ∷ record { low = 1; high = 2; seconds = 3 } ∷ record {
    low = 2;
    high = 3;
    seconds = 4;
  } ∷ record { low = 3; high = 4; seconds = 1 } ∷ [];
  d = λ u v. (get_or chain u 0 - get_or chain v 0) + (get_or chain v 0 - get_or chain u 0);
  kinds = kinds_n version;
  landmarks = 1;
  limit = limit;
}

-- its tree: "yards 1, 3, 4; m 1"
unfoldable pub tree_n : (version limit : ℕ) → Tree
tree_n version limit = cut_tree (given_n version limit) 5 (1 ∷ 3 ∷ 4 ∷ [])

-- "leaf limit 3. Its tree in hexadecimal: .."
pub net-N : encode (tree_n 1 3) ≡ net_n
unfolding net_n kinds_n together together_from kind_bytes chain given_n tree_n choose u16_bytes u32_bytes leaf_mark inner_mark first_distance last_from comes encode_element encode_list encode_leaf_mark
    encode_inner_mark encode_mark encode_marks encode_region encode_regions encode_body encode least_distance_from least greatest_from greatest within outside leads_out
    is_border
    borders_from borders landmark landmarks_from landmarks_of earlier later insert_element rank_into ranked_list leaf_region inner_region cut_at cut_part part_count
    part_regions cut
    cut_tree
net-N = refl

-- in version 2 the region has the bits of its yards
pub net-kinds : encode (tree_n 2 3) ≡ net_kinds
unfolding net_kinds kinds_n together together_from kind_bytes chain given_n tree_n choose u16_bytes u32_bytes leaf_mark inner_mark first_distance last_from comes encode_element encode_list encode_leaf_mark
    encode_inner_mark encode_mark encode_marks encode_region encode_regions encode_body encode least_distance_from least greatest_from greatest within outside leads_out
    is_border
    borders_from borders landmark landmarks_from landmarks_of earlier later insert_element rank_into ranked_list leaf_region inner_region cut_at cut_part part_count
    part_regions cut
    cut_tree
net-kinds = refl

-- with leaf limit 1 a root, a leaf, an inner region with two leaves
pub five : encode (tree_n 1 1) ≡ five_regions
unfolding five_regions kinds_n together together_from kind_bytes chain given_n tree_n choose u16_bytes u32_bytes leaf_mark inner_mark first_distance last_from comes encode_element encode_list encode_leaf_mark
    encode_inner_mark encode_mark encode_marks encode_region encode_regions encode_body encode least_distance_from least greatest_from greatest within outside leads_out
    is_border
    borders_from borders landmark landmarks_from landmarks_of earlier later insert_element rank_into ranked_list leaf_region inner_region cut_at cut_part part_count
    part_regions cut
    cut_tree
five = refl

-- with yards 3 and 4 only, the range of all junctions has one part with yards, from junction 3 on, which takes its place
pub one-child : map (λ (r : Region). r.first ∷ r.after ∷ r.children ∷ []) (cut_tree (given_n 1 1) 5 (3 ∷ 4 ∷ [])).regions
    ≡ (3 ∷ 5 ∷ 2 ∷ []) ∷ (3 ∷ 4 ∷ 0 ∷ []) ∷ (4 ∷ 5 ∷ 0 ∷ []) ∷ []
unfolding chain given_n choose leaf_mark inner_mark first_distance last_from comes least_distance_from least greatest_from greatest within outside leads_out is_border
    borders_from borders landmark landmarks_from landmarks_of earlier later insert_element rank_into ranked_list leaf_region inner_region cut_at cut_part part_count
    part_regions cut
    cut_tree
one-child = refl

-- the first part counts too: with yards 0 and 4 the parts from 0 and from 3 have one each
pub first_part : map (λ (r : Region). r.first ∷ r.after ∷ r.children ∷ []) (cut_tree (given_n 1 1) 5 (0 ∷ 4 ∷ [])).regions
    ≡ (0 ∷ 5 ∷ 2 ∷ []) ∷ (0 ∷ 1 ∷ 0 ∷ []) ∷ (3 ∷ 5 ∷ 0 ∷ []) ∷ []
unfolding chain given_n choose leaf_mark inner_mark first_distance last_from comes least_distance_from least greatest_from greatest within outside leads_out is_border
    borders_from borders landmark landmarks_from landmarks_of earlier later insert_element rank_into ranked_list leaf_region inner_region cut_at cut_part part_count
    part_regions cut
    cut_tree
first_part = refl

-- two landmarks of the range of junctions 1 to 3, whose border junctions are 1 and 3; and of all five, which has none: floor(0 × 5 / 2) and floor(1 × 5 / 2)
pub two-landmarks : landmarks_from 2 1 3 (borders (given_n 1 1).roads 1 3) 2 0 ∷ landmarks_from 2 0 5 (borders (given_n 1 1).roads 0 5) 2 0 ∷ []
    ≡ (1 ∷ 3 ∷ []) ∷ (0 ∷ 2 ∷ []) ∷ []
unfolding chain given_n choose leaf_mark inner_mark first_distance last_from comes least_distance_from least greatest_from greatest within outside leads_out is_border
    borders_from borders landmark landmarks_from landmarks_of earlier later insert_element rank_into ranked_list leaf_region inner_region cut_at cut_part part_count
    part_regions cut
    cut_tree
two-landmarks = refl
