-- What the accessors give, field by field. Assumes nothing.
use mathlib.Core.Path.{◌≡◌, ap}
use mathlib.Core.List.{List}
use Prim.Native.Nat.{ℕ, ◌+◌, ◌≤◌}
use native.Mathlib.Omega.{arith}
use lib.ListN.{length, drop, length-drop}
use lib.Seq.{length-take-le}
use Rattle.book.specs.Open.{version}
use Rattle.tree_layout.specs.Values.{Element}
use Rattle.tree_layout.specs.Sizes.{junction_size, list_size, leaf_mark_size}
use Rattle.tree_layout.specs.Decode.{element_at, list_part, region_count, tree_yard_count, landmark_count}
use Rattle.tree_layout.specs.Reading.{header_of, element}
use Rattle.tree_layout.specs.code.Accessors.{listed_at}
use Rattle.tree_layout.specs.declared.Header.{Header}
use Rattle.tree_layout.specs.declared.Listed.{Listed}
use Rattle.tree_layout.proofs.Sizes.{leaf_mark_are}

-- the header's counts
module _ (b : List ℕ) (h : Header) (e : h ≡ header_of b) where
  pub its_version : h.version ≡ version b
  unfolding header_of
  its_version = ap (λ (z : Header). z.version) e

  pub its_regions : h.regions ≡ region_count b
  unfolding header_of
  its_regions = ap (λ (z : Header). z.regions) e

  pub its_yards : h.yards ≡ tree_yard_count b
  unfolding header_of
  its_yards = ap (λ (z : Header). z.yards) e

  pub its_landmarks : h.landmarks ≡ landmark_count b
  unfolding header_of
  its_landmarks = ap (λ (z : Header). z.landmarks) e

-- an element of a list
module _ (v : ℕ) (p : List ℕ) (k : ℕ) (x : Listed) (e : x ≡ listed_at v p k) where
  pub listed-is : element x.distance x.yard.number x.kinds ≡ element_at v p (list_size v k)
  unfolding element_at
  listed-is = ap (λ (z : Listed). element z.distance z.yard.number z.kinds) e

  pub listed-yard : x.yard.number ≡ (element_at v p (list_size v k)).yard
  listed-yard = ap (λ (z : Element). z.yard) listed-is

-- a list is as long as its elements
pub part_length : (v : ℕ) (b : List ℕ) (n at : ℕ) → at + leaf_mark_size v n ≤ length b → length (list_part v b n (at + junction_size)) ≡ list_size v n
unfolding list_part
part_length v b n at h = length-take-le (list_size v n) (drop (at + 2) b) (omega (arith, length-drop (at + 2) b, leaf_mark_are v n))
