-- Each test of a tree book, one turn of a loop at a time: with k of n turns done, n - k are left. Assumes nothing.
use mathlib.Core.Path.{◌≡◌, refl, ◌∙◌}
use mathlib.Core.Bool.{Bool, true, false, ◌&&◌}
use mathlib.Core.List.{List, [], ◌∷◌}
use Prim.Native.Nat.{ℕ, zero, suc, ◌+◌, ◌*◌, ◌-◌, ◌≤◌, ◌<◌}
use native.Mathlib.Nat.{suc-mul}
use native.Mathlib.Omega.{arith}
use borrow.Author.Tests.{le-leb, lt-leb}
use lib.ListN.{length, get_or, drop, drop_of_length-le}
use lib.Dec.{T, leb, eqb, leb→le}
use Rattle.book.specs.Bytes.{u16_at, u32_at}
use Rattle.book.specs.Open.{version}
use Rattle.tree_layout.specs.Sizes.{fields_size, list_size, leaf_mark_size}
use Rattle.book.proofs.Choosing.{and_left, and_right, true_T, T_true}
use Rattle.tree_layout.specs.Values.{Element, Mark, Region, leaf_mark, inner_mark}
use Rattle.tree_layout.specs.Decode.{element_at, read_list, list_part, read_lists, read_spans, read_region, read_regions, size_at}
use Rattle.tree_layout.specs.Refusal.{all, records_ok, element_ok, comes, rises_from, list_rises, list_ok}
use Rattle.tree_layout.proofs.Reading.{all_none, list_on, list-none, lists-turn, lists-none}
use Rattle.tree_layout.proofs.Sizes.{list-zero}

-- ---- test 4

module _ (b : List ℕ) (m n k at : ℕ) where
  -- fewer bytes than a record's fields have are left
  pub records_short : k < n → length b < at + fields_size (version b) → records_ok b m (n - k) at ≡ false
  unfolding records_ok
  records_short h p =
      let s : n - k ≡ suc (n - (k + 1)) = omega arith in
      simp (s, lt-leb)

  -- the record runs past the end
  pub records_cut : (size : ℕ) → size ≡ size_at b m at → k < n → at + fields_size (version b) ≤ length b → length b < at + size → records_ok b m (n - k) at ≡ false
  unfolding records_ok
  records_cut size e h p q =
      let s : n - k ≡ suc (n - (k + 1)) = omega arith in
      simp (s, ← e, le-leb, lt-leb)

  -- the record is whole: the later ones decide
  pub records_next : (size : ℕ) → size ≡ size_at b m at → k < n → at + fields_size (version b) ≤ length b → at + size ≤ length b
      → records_ok b m (n - (k + 1)) (at + size) ≡ records_ok b m (n - k) at
  unfolding records_ok
  records_next size e h p q =
      let s : n - k ≡ suc (n - (k + 1)) = omega arith in
      simp (s, ← e, le-leb)

  -- no record is left
  pub records_end : n ≤ k → records_ok b m (n - k) at ≡ eqb at (length b)
  unfolding records_ok
  records_end h =
      let s : n - k ≡ 0 = omega arith in
      simp s

-- ---- a test over a list

pub all_on : {A : Type 0} (f : A → Bool) (x : A) (xs : List A) → f x ≡ true → all f xs ≡ all f (x ∷ xs)
unfolding all
all_on f x xs e = simp e

pub all_off : {A : Type 0} (f : A → Bool) (x : A) (xs : List A) → f x ≡ false → all f (x ∷ xs) ≡ false
unfolding all
all_off f x xs e = simp e

pub all_same : {A : Type 0} (f g : A → Bool) (xs : List A) → ((x : A) → f x ≡ g x) → all f xs ≡ all g xs
unfolding all
all_same f g [] h = refl
all_same f g (x ∷ xs) h = simp (h x, all_same f g xs h)

-- what is left of a list from place k on
pub drop-next : {A : Type 0} (l : List A) (d : A) (k : ℕ) → k < length l → drop k l ≡ get_or l k d ∷ drop (k + 1) l
drop-next [] d k h = absurd (omega arith)
drop-next (x ∷ l) d zero h = refl
drop-next (x ∷ l) d (suc k) h =
    let e : suc k + 1 ≡ suc (k + 1) = omega arith in
    drop-next l d k (omega arith) ∙ rw e refl

module _ {A : Type 0} (f : A → Bool) (xs : List A) (d : A) (k : ℕ) where
  -- the member passes: the later ones decide
  pub all_goes : k < length xs → f (get_or xs k d) ≡ true → all f (drop (k + 1) xs) ≡ all f (drop k xs)
  all_goes h e = rw (drop-next xs d k h) (all_on f _ _ e)

  pub all_stops : k < length xs → f (get_or xs k d) ≡ false → all f (drop k xs) ≡ false
  all_stops h e = rw (drop-next xs d k h) (all_off f _ _ e)

pub all-ends : {A : Type 0} (f : A → Bool) (xs : List A) (k : ℕ) → length xs ≤ k → all f (drop k xs) ≡ true
all-ends f xs k h = rw (drop_of_length-le xs h) (all_none f)

-- ---- a list

and_false : (a : Bool) → (a && false) ≡ false
and_false true = refl
and_false false = refl

-- what is left of a list's test after an element
unfoldable pub list_rest : Element → List Element → Bool
list_rest e es = all element_ok es && rises_from e es

module _ (v : ℕ) (p : List ℕ) (n : ℕ) (h : 1 ≤ n) (x : Element) (e : x ≡ element_at v p (list_size v 0)) where
  first : read_list v p n 0 ≡ x ∷ read_list v p (n - 1) (list_size v 1)
  first =
      let s : n - 0 ≡ n = omega arith in
      let z = list-zero v in
      let t : read_list v p (n - 0) (list_size v 0) ≡ x ∷ read_list v p (n - 1) (list_size v 1) = rw e (list_on v p n 0 (omega arith)) in
      rw (s, z) at t

  pub list_bad : element_ok x ≡ false → list_ok (read_list v p n 0) ≡ false
  unfolding list_ok all
  list_bad o = rw first (simp o)

  pub list_start : element_ok x ≡ true → list_rest x (read_list v p (n - 1) (list_size v 1)) ≡ list_ok (read_list v p n 0)
  unfolding list_rest list_ok list_rises all
  list_start o = rw first (simp o)

module _ (v : ℕ) (p : List ℕ) (n k : ℕ) (last : Element) (h : k < n) (x : Element) (e : x ≡ element_at v p (list_size v k)) where
  split : read_list v p (n - k) (list_size v k) ≡ x ∷ read_list v p (n - (k + 1)) (list_size v (k + 1))
  split = rw e (list_on v p n k h)

  pub list-limit : element_ok x ≡ false → list_rest last (read_list v p (n - k) (list_size v k)) ≡ false
  unfolding list_rest all
  list-limit o = rw split (simp o)

  pub list-order : comes last x ≡ false → list_rest last (read_list v p (n - k) (list_size v k)) ≡ false
  unfolding list_rest rises_from
  list-order c = rw split (simp (c, and_false))

  pub list-next : element_ok x ≡ true → comes last x ≡ true
      → list_rest x (read_list v p (n - (k + 1)) (list_size v (k + 1))) ≡ list_rest last (read_list v p (n - k) (list_size v k))
  unfolding list_rest all rises_from
  list-next o c = rw split (simp (o, c))

pub list-end : (v : ℕ) (p : List ℕ) (n k : ℕ) (last : Element) → n ≤ k → list_rest last (read_list v p (n - k) (list_size v k)) ≡ true
unfolding list_rest all rises_from
list-end v p n k last h = rw (list-none v p n k (list_size v k) h) refl

-- ---- a leaf's landmarks

-- what is left of the room for n parts of s bytes each
pub room : (n k at s len : ℕ) → k < n → at + (n - k) * s ≤ len → (at + s ≤ len) × (at + s + (n - (k + 1)) * s ≤ len)
room n k at s len h l =
    let t : n - k ≡ suc (n - (k + 1)) = omega arith in
    let q : at + (suc (n - (k + 1))) * s ≤ len = rw t at l in
    (omega (arith, suc-mul (n - (k + 1)) s), omega (arith, suc-mul (n - (k + 1)) s))

-- ---- regions

module _ (f : Region → Bool) (b : List ℕ) (m n k at : ℕ) where
  regions_split : k < n → read_regions b m (n - k) at ≡ read_region b m at ∷ read_regions b m (n - (k + 1)) (at + size_at b m at)
  unfolding read_regions
  regions_split h =
      let s : n - k ≡ suc (n - (k + 1)) = omega arith in
      simp s

  pub regions-next : (size : ℕ) → size ≡ size_at b m at → k < n → f (read_region b m at) ≡ true
      → all f (read_regions b m (n - (k + 1)) (at + size)) ≡ all f (read_regions b m (n - k) at)
  regions-next size g h e = rw (g, regions_split h) (all_on f _ _ e)

  pub regions_stop : k < n → f (read_region b m at) ≡ false → all f (read_regions b m (n - k) at) ≡ false
  regions_stop h e = rw (regions_split h) (all_off f _ _ e)

  pub regions-end : n ≤ k → all f (read_regions b m (n - k) at) ≡ true
  unfolding all read_regions
  regions-end h =
      let s : n - k ≡ 0 = omega arith in
      simp s

-- what test 4 says of the record at a place, and of the later ones
module _ (b : List ℕ) (m n k at : ℕ) (h : k < n) (t : records_ok b m (n - k) at ≡ true) where
  whole : T (leb (at + fields_size (version b)) (length b) && (leb (at + size_at b m at) (length b) && records_ok b m (n - (k + 1)) (at + size_at b m at)))
  unfolding records_ok
  whole =
      let s : n - k ≡ suc (n - (k + 1)) = omega arith in
      true_T (rw s at t)

  pub record_fields : at + fields_size (version b) ≤ length b
  record_fields = leb→le _ _ (and_left (leb (at + fields_size (version b)) (length b)) _ whole)

  pub record_whole : at + size_at b m at ≤ length b
  record_whole = leb→le _ _ (and_left (leb (at + size_at b m at) (length b)) _ (and_right (leb (at + fields_size (version b)) (length b)) _ whole))

  pub records_later : (size : ℕ) → size ≡ size_at b m at → records_ok b m (n - (k + 1)) (at + size) ≡ true
  records_later size e =
      rw e (T_true _ (and_right (leb (at + size_at b m at) (length b)) _ (and_right (leb (at + fields_size (version b)) (length b)) _ whole)))
