-- A test of each part of a tree book, one at a time: with k of n done, n - k are left. Assumes nothing.
use mathlib.Core.Path.{◌≡◌, refl, sym, ◌∙◌}
use mathlib.Core.Bool.{Bool, true, false}
use mathlib.Core.List.{List}
use Prim.Native.Nat.{ℕ, suc, ◌+◌, ◌*◌, ◌-◌, ◌≤◌, ◌<◌}
use native.Mathlib.Nat.{suc-mul, mul-le-mul_right}
use native.Mathlib.Omega.{arith}
use lib.ListN.{length, get_or, drop}
use Rattle.book.specs.Bytes.{u8_at, u16_at}
use Rattle.book.specs.Open.{version}
use Rattle.book.proofs.Choosing.{true_T}
use Rattle.tree_layout.specs.Values.{Element, Mark, Region, no_mark}
use Rattle.tree_layout.specs.Sizes.{header_size, fields_size, element_size, list_size}
use Rattle.tree_layout.specs.Decode.{read_list, mark_size, read_region, read_regions, size_at, place_from}
use Rattle.tree_layout.specs.Refusal.{all, records_ok}
use Rattle.tree_layout.specs.code.Accessors.{listed_at}
use Rattle.tree_layout.specs.code.Marks.{mark_place}
use Rattle.tree_layout.specs.code.Every.{TestsElement, TestsMark, TestsRecord}
use Rattle.tree_layout.specs.declared.Listed.{Listed}
use Rattle.tree_layout.proofs.Accessing.{listed-is}
use Rattle.tree_layout.proofs.MarkPlaces.{region_marks}
use Rattle.tree_layout.proofs.Places.{size-at, place-later, place-next, records_filled}
use Rattle.tree_layout.proofs.Reading.{all_none, list_on, list-none}
use Rattle.tree_layout.proofs.Sizes.{list-zero, list-room}
use Rattle.tree_layout.proofs.Turns.{all_on, all_off, all_goes, all_stops, all-ends, regions-next, regions_stop}

-- ---- a list of n elements, with k of them done

-- element number k lies in the list's part of the book, of so many bytes
pub element-inside : (v n k size : ℕ) → list_size v n ≤ size → k < n → list_size v k + element_size v ≤ size
element-inside v n k size h l = omega (arith, h, list-room v k n l)

module _ (f : Element → Bool) (v : ℕ) (p : List ℕ) (n : ℕ) where
  pub elements_first : all f (read_list v p (n - 0) (list_size v 0)) ≡ all f (read_list v p n 0)
  elements_first =
      let s : n - 0 ≡ n = omega arith in
      rw (s, list-zero v) refl

  pub elements_done : (k : ℕ) → n ≤ k → all f (read_list v p (n - k) (list_size v k)) ≡ true
  elements_done k h = rw (list-none v p n k (list_size v k) h) (all_none f)

  -- element number k, and what a test answers of it
  module _ (k : ℕ) (h : k < n) (Answers : Listed → Bool → Type 0) (t : TestsElement Answers f) (e : Listed) (q : e ≡ listed_at v p k) (r : Bool) (g : Answers e r) where
    -- the element passes: the later ones decide
    pub elements_on : r ≡ true → all f (read_list v p (n - (k + 1)) (list_size v (k + 1))) ≡ all f (read_list v p (n - k) (list_size v k))
    elements_on o = rw (list_on v p n k h) (all_on f _ _ (rw (listed-is v p k e q) at (sym (t e r g) ∙ o)))

    pub elements_off : r ≡ false → all f (read_list v p (n - k) (list_size v k)) ≡ false
    elements_off o = rw (list_on v p n k h) (all_off f _ _ (rw (listed-is v p k e q) at (sym (t e r g) ∙ o)))

-- ---- the landmarks of the record at a place, with j of m done: the next one stands at p

module _ (b : List ℕ) (at : ℕ) where
  -- where it stands, as it is computed
  pub mark-stands : (v : ℕ) → v ≡ version b → (start : ℕ) → start ≡ at + fields_size v → (j size : ℕ)
      → size ≡ mark_size (version b) (u8_at b (at + 4)) (u16_at b (at + 5)) → start + j * size ≡ mark_place b at j
  unfolding mark_place
  mark-stands v e start f j size g = rw (f, e, g) refl

  module _ (m : ℕ) where
    -- it lies in the book
    pub mark-inside : at + size_at b m at ≤ length b → (j : ℕ) → j < m → (size : ℕ)
        → size ≡ mark_size (version b) (u8_at b (at + 4)) (u16_at b (at + 5)) → ((at + fields_size (version b)) + j * size) + size ≤ length b
    mark-inside i j h size e =
        let s : size_at b m at ≡ fields_size (version b) + m * size = rw e (size-at b m at) in
        let k : suc j * size ≤ m * size = mul-le-mul_right size h in
        omega (arith, i, suc-mul j size)

    module _ (j : ℕ) (h : j < m) (p : ℕ) (place : p ≡ mark_place b at j) (Answers : ℕ → Bool → Type 0) (f : Mark → Bool)
        (t : TestsMark b at m Answers f) (r : Bool) (g : Answers p r) where
      told : r ≡ f (get_or (read_region b m at).marks j no_mark)
      told = t j h r (rw place at g)

      pub marks_on : r ≡ true → all f (drop (j + 1) (read_region b m at).marks) ≡ all f (drop j (read_region b m at).marks)
      marks_on o = all_goes f (read_region b m at).marks no_mark j (omega (arith, region_marks b m at)) (sym told ∙ o)

      pub marks_off : r ≡ false → all f (drop j (read_region b m at).marks) ≡ false
      marks_off o = all_stops f (read_region b m at).marks no_mark j (omega (arith, region_marks b m at)) (sym told ∙ o)

pub marks-done : (f : Mark → Bool) (b : List ℕ) (m at j : ℕ) → m ≤ j → all f (drop j (read_region b m at).marks) ≡ true
marks-done f b m at j h = all-ends f (read_region b m at).marks j (omega (arith, region_marks b m at))

-- ---- n records of m landmarks, with k of them done: the next one stands at a place

module _ (b : List ℕ) (m n k : ℕ) (h : k < n) (at : ℕ) (place : at ≡ place_from b m k header_size) (Answers : ℕ → Bool → Type 0) (f : Region → Bool)
    (t : TestsRecord b m n Answers f) (r : Bool) (g : Answers at r) where
  answer : r ≡ f (read_region b m at)
  answer = rw place (t k h r (rw place at g))

  -- the record passes: the later ones decide
  pub records_on : r ≡ true → (size : ℕ) → size ≡ size_at b m at
      → all f (read_regions b m (n - (k + 1)) (at + size)) ≡ all f (read_regions b m (n - k) at)
  records_on o size e = regions-next f b m n k at size e h (sym answer ∙ o)

  pub records_off : r ≡ false → all f (read_regions b m (n - k) at) ≡ false
  records_off o = regions_stop f b m n k at h (sym answer ∙ o)

-- the record after it stands where it ends
pub record_later : (b : List ℕ) (m k at : ℕ) → at ≡ place_from b m k header_size → (size : ℕ) → size ≡ size_at b m at
    → at + size ≡ place_from b m (k + 1) header_size
record_later b m k at place size e =
    let s : k + 1 ≡ suc k = omega arith in
    rw (e, s, place) (sym (place-next b m k header_size))

-- each of them lies in the book
pub record-inside : (b : List ℕ) (m n k : ℕ) → records_ok b m n header_size ≡ true → k < n
    → place_from b m k header_size + size_at b m (place_from b m k header_size) ≤ length b
record-inside b m n k t h =
    omega (arith, records_filled b m n header_size (true_T t), place-later b m (suc k) n header_size (omega arith), place-next b m k header_size)
