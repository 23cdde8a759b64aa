-- The landmarks of a record, as they are read. Assumes nothing.
use mathlib.Core.Path.{◌≡◌, refl, sym, ap, ◌∙◌}
use mathlib.Core.Bool.{Bool, true}
use mathlib.Core.List.{List}
use Prim.Native.Nat.{ℕ, zero, suc, ◌+◌, ◌*◌, ◌-◌, ◌≤◌, ◌<◌}
use native.Mathlib.Nat.{suc-mul, mul-le-mul_right}
use native.Mathlib.Omega.{arith}
use lib.ListN.{length, get_or, drop}
use Rattle.book.specs.Bytes.{u8_at, u16_at, u32_at}
use Rattle.book.specs.Open.{version}
use Rattle.tree_layout.specs.Sizes.{fields_size, list_size, leaf_mark_size}
use Rattle.tree_layout.specs.Values.{Element, Mark, no_mark, leaf_mark, inner_mark, first_distance, last_from}
use Rattle.tree_layout.specs.Decode.{mark_size, size_at, read_list, list_part, read_region, landmark_count}
use Rattle.tree_layout.specs.Refusal.{all}
use Rattle.tree_layout.proofs.Turns.{all-ends}
use Rattle.tree_layout.proofs.Places.{mark_size-leaf, mark_size-inner, size-at, size-least}
use Rattle.tree_layout.proofs.Ends.{leaf-is, inner-is, first_read, last_read}
use Rattle.tree_layout.proofs.MarkPlaces.{region_marks, leaf_mark_at, inner_mark_at}
use Rattle.tree_layout.specs.declared.Landmark.{Landmark}
use Rattle.tree_layout.specs.code.Marks.{mark_place, marks_at, landmark_of, RecordAt}

-- ---- a landmark's bytes

module _ (b : List ℕ) (at children yards : ℕ) (e : children ≡ u8_at b (at + 4)) where
  pub size-inner : (children ≡ 0 → ⊥) → 10 ≡ mark_size (version b) (u8_at b (at + 4)) (u16_at b (at + 5))
  size-inner h = sym (mark_size-inner (version b) (u8_at b (at + 4)) (u16_at b (at + 5)) (omega arith))

  pub size-leaf : yards ≡ u16_at b (at + 5) → children ≡ 0 → leaf_mark_size (version b) yards ≡ mark_size (version b) (u8_at b (at + 4)) (u16_at b (at + 5))
  size-leaf f h = rw f (sym (mark_size-leaf (version b) (u8_at b (at + 4)) (u16_at b (at + 5)) (sym e ∙ h)))

-- ---- where it stands

module _ (b : List ℕ) (at : ℕ) (r : RecordAt b at) where
  -- the record's fields lie in the book
  pub fields_inside : at + fields_size (version b) ≤ length b
  fields_inside = omega (arith, size-least b (landmark_count b) at, r.inside)

  module _ (j : ℕ) (h : j < landmark_count b) where
    -- and so does landmark j, of a size
    pub mark_inside : (size : ℕ) → size ≡ mark_size (version b) (u8_at b (at + 4)) (u16_at b (at + 5)) → ((at + fields_size (version b)) + j * size) + size ≤ length b
    mark_inside size e =
        let s : size_at b (landmark_count b) at ≡ fields_size (version b) + landmark_count b * size = rw e (size-at b (landmark_count b) at) in
        let m : suc j * size ≤ landmark_count b * size = mul-le-mul_right size h in
        omega (arith, suc-mul j size, r.inside)

    pub place_is : (size : ℕ) → size ≡ mark_size (version b) (u8_at b (at + 4)) (u16_at b (at + 5)) → (at + fields_size (version b)) + j * size ≡ mark_place b at j
    unfolding mark_place
    place_is size e = rw e refl

    module _ (p : ℕ) (e : p ≡ mark_place b at j) where
      place : p ≡ (at + fields_size (version b)) + j * mark_size (version b) (u8_at b (at + 4)) (u16_at b (at + 5))
      unfolding mark_place
      place = e

      -- an inner region's landmark lies in the book
      pub span-inside : (children : ℕ) → children ≡ u8_at b (at + 4) → (children ≡ 0 → ⊥) → p + 10 ≤ length b
      span-inside children f z =
          omega (arith, place, mark_inside (mark_size (version b) (u8_at b (at + 4)) (u16_at b (at + 5))) refl, size-inner b at children 0 f z)

      pub span-is : (children : ℕ) → children ≡ u8_at b (at + 4) → (children ≡ 0 → ⊥) → (l : Landmark)
          → l ≡ landmark_of (inner_mark (u16_at b p) (u32_at b (p + 2)) (u32_at b (p + 6))) → l ≡ landmark_of (get_or (marks_at b at) j no_mark)
      unfolding marks_at
      span-is children f z l g = g ∙ ap landmark_of (sym (inner_mark_at b (landmark_count b) at j p no_mark h place (omega arith)))

      -- a leaf's
      module _ (children yards : ℕ) (f : children ≡ u8_at b (at + 4)) (z : children ≡ 0) (y : yards ≡ u16_at b (at + 5)) where
        pub list_inside : p + leaf_mark_size (version b) yards ≤ length b
        list_inside = omega (arith, place, mark_inside (mark_size (version b) (u8_at b (at + 4)) (u16_at b (at + 5))) refl, size-leaf b at children yards f y z)

        pub list-is : (u : ℕ) (q : List ℕ) (v : ℕ) (l : Landmark) → u ≡ u16_at b p → q ≡ list_part (version b) b yards (p + 2) → v ≡ version b
            → l ≡ landmark_of (leaf_mark u (read_list v q yards 0)) → l ≡ landmark_of (get_or (marks_at b at) j no_mark)
        unfolding marks_at
        list-is u q v l eu eq ev g =
            let k : l ≡ landmark_of (leaf_mark (u16_at b p) (read_list (version b) (list_part (version b) b yards (p + 2)) yards 0)) = rw (← eu, ← eq, ← ev)
            g in
            k ∙ ap landmark_of (rw y (sym (leaf_mark_at b (landmark_count b) at j p no_mark h place (sym f ∙ z))))

-- ---- its fields

landmark : (place least greatest : ℕ) → Landmark
landmark place least greatest = record { place = record { number = place }; least = least; greatest = greatest }

same-landmark : (u a z a' z' : ℕ) → a ≡ a' → z ≡ z' → landmark u a z ≡ landmark u a' z'
same-landmark u a z a' z' e f = rw (e, f) refl

-- of a list of n pairs
pub list-ends : (v : ℕ) (p : List ℕ) (u n a z : ℕ) → 1 ≤ n → a ≡ u32_at p 0 → z ≡ u32_at p (list_size v (n - 1)) → (l : Landmark)
    → l ≡ record { place = record { number = u }; least = a; greatest = z } → l ≡ landmark_of (leaf_mark u (read_list v p n 0))
unfolding landmark_of landmark
list-ends v p u zero a z h e f l g = absurd (omega arith)
list-ends v p u (suc n) a z h e f l g =
    let s : suc n - 1 ≡ n = omega arith in
    let t : 0 + list_size v n ≡ list_size v n = omega arith in
    let es : List Element = read_list v p (suc n) 0 in
    let first : a ≡ first_distance es = e ∙ sym (first_read v p n 0) in
    let last : z ≡ last_from 0 es = rw s at f ∙ sym (rw t at (last_read v p n 0 0)) in
    g ∙ rw (leaf-is u es) (same-landmark u a z (first_distance es) (last_from 0 es) first last)

-- of a span
pub span-ends : (b : List ℕ) (at u a z : ℕ) → u ≡ u16_at b at → a ≡ u32_at b (at + 2) → z ≡ u32_at b (at + 6) → (l : Landmark)
    → l ≡ record { place = record { number = u }; least = a; greatest = z }
    → l ≡ landmark_of (inner_mark (u16_at b at) (u32_at b (at + 2)) (u32_at b (at + 6)))
unfolding landmark_of
span-ends b at u a z eu ea ez l g = g ∙ rw (inner-is (u16_at b at) (u32_at b (at + 2)) (u32_at b (at + 6)), eu, ea, ez) refl

-- a record has its landmarks
pub marks-count : (b : List ℕ) (at : ℕ) → length (marks_at b at) ≡ landmark_count b
unfolding marks_at
marks-count b at = region_marks b (landmark_count b) at

-- they are those that are read there
pub marks_read : (b : List ℕ) (at : ℕ) → marks_at b at ≡ (read_region b (landmark_count b) at).marks
unfolding marks_at
marks_read b at = refl

-- a test of every landmark, with none left
pub all-marks-done : (b : List ℕ) (at m : ℕ) (f : Mark → Bool) (j : ℕ) → m ≡ landmark_count b → m ≤ j → all f (drop j (marks_at b at)) ≡ true
all-marks-done b at m f j e h = all-ends f (marks_at b at) j (omega (arith, marks-count b at))

-- by a count that is the header's
module _ (b : List ℕ) (at m : ℕ) (e : m ≡ landmark_count b) where
  pub marks-own : (read_region b m at).marks ≡ marks_at b at
  unfolding marks_at
  marks-own = rw e refl

  pub record-fits : RecordAt b at → at + size_at b m at ≤ length b
  record-fits r = rw e r.inside

-- a landmark's numbers are its mark's
pub landmark_fields : (l : Landmark) (m : Mark) → l ≡ landmark_of m → (l.place.number ≡ m.place) × (l.least ≡ m.least) × (l.greatest ≡ m.greatest)
unfolding landmark_of
landmark_fields l m e = (ap (λ (x : Landmark). x.place.number) e, ap (λ (x : Landmark). x.least) e, ap (λ (x : Landmark). x.greatest) e)
