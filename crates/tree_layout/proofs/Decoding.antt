-- Reading a tree book, one equation for each of its definitions. Assumes nothing.
use mathlib.Core.Path.{◌≡◌, refl}
use mathlib.Core.List.{List, [], ◌∷◌}
use Prim.Native.Nat.{ℕ, suc, ◌+◌, ◌*◌}
use lib.ListN.{take, drop}
use Rattle.book.specs.Bytes.{u8_at, u16_at, u32_at}
use Rattle.book.specs.Open.{version}
use Rattle.kinds.specs.Kinds.{kind_at}
use Rattle.tree_layout.specs.Sizes.{fields_size, element_size, list_size, leaf_mark_size}
use Rattle.tree_layout.specs.Values.{leaf_mark, inner_mark}
use Rattle.tree_layout.specs.Decode.{element_at, read_list, list_part, read_lists, read_spans, read_marks, read_region, read_regions, mark_size, record_size}
use Rattle.tree_layout.specs.Decode.{size_at, junction_count, region_count, tree_yard_count, landmark_count, place_from, place_of, decode}

-- ---- a list

pub element-is : (v : ℕ) (p : List ℕ) (at : ℕ)
    → element_at v p at ≡ record { distance = u32_at p at; yard = u16_at p (at + 4); kinds = kind_at v p (at + 6) }
unfolding element_at
element-is v p at = refl

pub read_list-none : (v : ℕ) (p : List ℕ) (at : ℕ) → read_list v p 0 at ≡ []
unfolding read_list
read_list-none v p at = refl

pub read_list-next : (v : ℕ) (p : List ℕ) (n at : ℕ) → read_list v p (suc n) at ≡ element_at v p at ∷ read_list v p n (at + element_size v)
unfolding read_list
read_list-next v p n at = refl

pub list-part-is : (v : ℕ) (b : List ℕ) (n at : ℕ) → list_part v b n at ≡ take (list_size v n) (drop at b)
unfolding list_part
list-part-is v b n at = refl

-- ---- landmarks

pub read_lists-none : (b : List ℕ) (yards at : ℕ) → read_lists b yards 0 at ≡ []
unfolding read_lists
read_lists-none b yards at = refl

pub read_lists-next : (b : List ℕ) (yards k at : ℕ)
    → read_lists b yards (suc k) at ≡ leaf_mark (u16_at b at) (read_list (version b) (list_part (version b) b yards (at + 2)) yards 0)
    ∷ read_lists b yards k (at + leaf_mark_size (version b) yards)
unfolding read_lists
read_lists-next b yards k at = refl

pub read_spans-none : (b : List ℕ) (at : ℕ) → read_spans b 0 at ≡ []
unfolding read_spans
read_spans-none b at = refl

pub read_spans-next : (b : List ℕ) (k at : ℕ) → read_spans b (suc k) at ≡ inner_mark (u16_at b at) (u32_at b (at + 2)) (u32_at b (at + 6)) ∷ read_spans b k (at + 10)
unfolding read_spans
read_spans-next b k at = refl

-- ---- regions

pub record_size_lem : (v m children yards : ℕ) → record_size v m children yards ≡ fields_size v + m * mark_size v children yards
unfolding record_size
record_size_lem v m children yards = refl

pub size_of : (b : List ℕ) (m at : ℕ) → size_at b m at ≡ record_size (version b) m (u8_at b (at + 4)) (u16_at b (at + 5))
unfolding size_at
size_of b m at = refl

pub read_region_lem : (b : List ℕ) (m at : ℕ)
    → read_region b m at ≡ record {
      first = u16_at b at;
      after = u16_at b (at + 2);
      children = u8_at b (at + 4);
      yards = u16_at b (at + 5);
      kinds = kind_at (version b) b (at + 7);
      marks = read_marks b m (u8_at b (at + 4)) (u16_at b (at + 5)) (at + fields_size (version b));
    }
unfolding read_region
read_region_lem b m at = refl

pub read_regions-none : (b : List ℕ) (m at : ℕ) → read_regions b m 0 at ≡ []
unfolding read_regions
read_regions-none b m at = refl

pub read_regions-next : (b : List ℕ) (m n at : ℕ) → read_regions b m (suc n) at ≡ read_region b m at ∷ read_regions b m n (at + size_at b m at)
unfolding read_regions
read_regions-next b m n at = refl

-- ---- the book

pub count-junctions : (b : List ℕ) → junction_count b ≡ u16_at b 5
unfolding junction_count
count-junctions b = refl

pub count-regions : (b : List ℕ) → region_count b ≡ u16_at b 7
unfolding region_count
count-regions b = refl

pub count-yards : (b : List ℕ) → tree_yard_count b ≡ u16_at b 9
unfolding tree_yard_count
count-yards b = refl

pub count-landmarks : (b : List ℕ) → landmark_count b ≡ u8_at b 11
unfolding landmark_count
count-landmarks b = refl

pub decode_is : (b : List ℕ) → decode b ≡ record {
  version = version b;
  junctions = junction_count b;
  yards = tree_yard_count b;
  landmarks = landmark_count b;
  regions = read_regions b (landmark_count b) (region_count b) 12;
}
unfolding decode
decode_is b = refl

pub place_is : (b : List ℕ) (i : ℕ) → place_of b i ≡ place_from b (landmark_count b) i 12
unfolding place_of
place_is b i = refl
