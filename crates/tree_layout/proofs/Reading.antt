-- What is read at a place, one pair, landmark or field at a time, for code that reads a tree book in place. Assumes nothing.
use mathlib.Core.Path.{◌≡◌, refl}
use mathlib.Core.Bool.{Bool, true, ◌&&◌}
use mathlib.Core.List.{List, [], ◌∷◌}
use Prim.Native.Nat.{ℕ, suc, ◌+◌, ◌-◌, ◌≤◌, ◌<◌}
use native.Mathlib.Omega.{arith}
use lib.ListN.{take, drop}
use Rattle.book.specs.Bytes.{u8_at, u16_at}
use Rattle.book.specs.Open.{version}
use Rattle.kinds.specs.Kinds.{kind_at}
use Rattle.tree_layout.specs.Sizes.{fields_size, element_size, list_size, leaf_mark_size}
use Rattle.tree_layout.specs.Values.{leaf_mark}
use Rattle.tree_layout.specs.Decode.{element_at, read_list, list_part, read_lists, read_region, junction_count, region_count, tree_yard_count, landmark_count}
use Rattle.tree_layout.specs.Refusal.{all}
use Rattle.tree_layout.specs.Reading.{header_of}
use Rattle.tree_layout.proofs.Sizes.{list-next}
use Rattle.tree_layout.proofs.Formed.{marks-lists}

-- ---- a test over a list, one member at a time

pub all_none : {A : Type 0} (f : A → Bool) → all f [] ≡ true
unfolding all
all_none f = refl

pub all-next : {A : Type 0} (f : A → Bool) (x : A) (xs : List A) → all f (x ∷ xs) ≡ (f x && all f xs)
unfolding all
all-next f x xs = refl

-- ---- pairs

-- n - k pairs from a place on are the pair there and the others after it
pub list-turn : (v : ℕ) (p : List ℕ) (n k at : ℕ) → k < n
    → read_list v p (n - k) at ≡ element_at v p at ∷ read_list v p (n - (k + 1)) (at + element_size v)
unfolding read_list
list-turn v p n k at h = let s : n - k ≡ suc (n - (k + 1)) = omega arith in rw s refl

-- element number k of a list, and the later ones
pub list_on : (v : ℕ) (p : List ℕ) (n k : ℕ) → k < n
    → read_list v p (n - k) (list_size v k) ≡ element_at v p (list_size v k) ∷ read_list v p (n - (k + 1)) (list_size v (k + 1))
list_on v p n k h = rw (list-next v k) (list-turn v p n k (list_size v k) h)

pub list-none : (v : ℕ) (p : List ℕ) (n k at : ℕ) → n ≤ k → read_list v p (n - k) at ≡ []
unfolding read_list
list-none v p n k at h = let s : n - k ≡ 0 = omega arith in rw s refl

-- the part of the book from a up to e that has n pairs
pub list-part : (v : ℕ) (b : List ℕ) (n a e : ℕ) → e ≡ a + list_size v n → take (e - a) (drop a b) ≡ list_part v b n a
unfolding list_part
list-part v b n a e h = let s : e - a ≡ list_size v n = omega arith in rw s refl

-- ---- a leaf's landmarks

pub lists-turn : (b : List ℕ) (yards m k at : ℕ) → k < m
    → read_lists b yards (m - k) at
    ≡ leaf_mark (u16_at b at) (read_list (version b) (list_part (version b) b yards (at + 2)) yards 0)
    ∷ read_lists b yards (m - (k + 1)) (at + leaf_mark_size (version b) yards)
unfolding read_lists
lists-turn b yards m k at h = let s : m - k ≡ suc (m - (k + 1)) = omega arith in rw s refl

pub lists-none : (b : List ℕ) (yards m k at : ℕ) → m ≤ k → read_lists b yards (m - k) at ≡ []
unfolding read_lists
lists-none b yards m k at h = let s : m - k ≡ 0 = omega arith in rw s refl

-- ---- a record's fields

module _ (b : List ℕ) (m at : ℕ) where
  pub region_first : (read_region b m at).first ≡ u16_at b at
  unfolding read_region
  region_first = refl

  pub region_after : (read_region b m at).after ≡ u16_at b (at + 2)
  unfolding read_region
  region_after = refl

  pub region_children : (read_region b m at).children ≡ u8_at b (at + 4)
  unfolding read_region
  region_children = refl

  pub region_yards : (read_region b m at).yards ≡ u16_at b (at + 5)
  unfolding read_region
  region_yards = refl

  pub region_kinds : (read_region b m at).kinds ≡ kind_at (version b) b (at + 7)
  unfolding read_region
  region_kinds = refl

  pub region_lists : u8_at b (at + 4) ≡ 0 → (read_region b m at).marks ≡ read_lists b (u16_at b (at + 5)) m (at + fields_size (version b))
  unfolding read_region
  region_lists h = marks-lists b m (u8_at b (at + 4)) (u16_at b (at + 5)) (at + fields_size (version b)) h

-- ---- the reader's answer

pub header-junctions : (b : List ℕ) → (header_of b).junctions ≡ junction_count b
unfolding header_of
header-junctions b = refl

pub header-yards : (b : List ℕ) → (header_of b).yards ≡ tree_yard_count b
unfolding header_of
header-yards b = refl

pub header-regions : (b : List ℕ) → (header_of b).regions ≡ region_count b
unfolding header_of
header-regions b = refl

pub header-landmarks : (b : List ℕ) → (header_of b).landmarks ≡ landmark_count b
unfolding header_of
header-landmarks b = refl
