-- The sizes of a tree book's parts, by its version. Assumes nothing.
use mathlib.Core.Path.{◌≡◌, refl, ap, ◌∙◌}
use Prim.Native.Nat.{ℕ, suc, ◌+◌, ◌*◌, ◌≤◌, ◌<◌}
use native.Mathlib.Nat.{suc-mul, mul-le-mul_left, mul-le-mul_right}
use native.Mathlib.Numerals.{add-one}
use native.Mathlib.Omega.{arith}
use lib.Dec.{eqb}
use Rattle.book.proofs.Choosing.{choose_case}
use Rattle.kinds.specs.Kinds.{kind_size}
use Rattle.kinds.proofs.Reading.{size_none, size-one, size-most}
use Rattle.tree_layout.specs.Sizes.{fields_size, element_size, list_size, leaf_mark_size}
use Rattle.tree_layout.specs.Decode.{mark_size}

-- ---- a region's fields, and an element

module _ (v : ℕ) where
  -- as code computes them
  pub fields_are : fields_size v ≡ 7 + kind_size v
  unfolding fields_size
  fields_are = refl

  pub element_are : element_size v ≡ 6 + kind_size v
  unfolding element_size
  element_are = refl

  pub fields_least : 7 ≤ fields_size v
  fields_least = omega (arith, fields_are)

  pub fields_most : fields_size v ≤ 8
  fields_most = omega (arith, fields_are, size-most v)

  pub element-least : 6 ≤ element_size v
  element-least = omega (arith, element_are)

  pub element-most : element_size v ≤ 7
  element-most = omega (arith, element_are, size-most v)

  -- in version 1, and in version 2
  pub fields_one : v ≡ 1 → fields_size v ≡ 7
  fields_one e = omega (arith, fields_are, size_none v e)

  pub fields_two : (v ≡ 1 → ⊥) → fields_size v ≡ 8
  fields_two n = omega (arith, fields_are, size-one v n)

  pub element-one : v ≡ 1 → element_size v ≡ 6
  element-one e = omega (arith, element_are, size_none v e)

  pub element-two : (v ≡ 1 → ⊥) → element_size v ≡ 7
  element-two n = omega (arith, element_are, size-one v n)

  -- ---- a leaf's list

  -- as code computes it
  pub list_by : (n s : ℕ) → s ≡ kind_size v → n * (6 + s) ≡ list_size v n
  unfolding list_size element_size
  list_by n s e = rw e refl

  pub list-zero : list_size v 0 ≡ 0
  unfolding list_size
  list-zero = omega arith

  -- one element more
  pub list-more : (n : ℕ) → list_size v (suc n) ≡ list_size v n + element_size v
  unfolding list_size
  list-more n = simp suc-mul

  pub list-next : (n : ℕ) → list_size v (n + 1) ≡ list_size v n + element_size v
  list-next n = ap (list_size v) (add-one n) ∙ list-more n

  -- fewer elements take up no more
  pub list-le : (k n : ℕ) → k ≤ n → list_size v k ≤ list_size v n
  unfolding list_size
  list-le k n h = mul-le-mul_right (element_size v) h

  -- an element before number n ends at or before it
  pub list-room : (k n : ℕ) → k < n → list_size v k + element_size v ≤ list_size v n
  list-room k n h = omega (arith, list-more k, list-le (suc k) n h)

  pub list-most : (n : ℕ) → list_size v n ≤ 7 * n
  unfolding list_size
  list-most n = omega (arith, mul-le-mul_left n element-most)

  -- in version 1, and in version 2
  pub list-one : (n : ℕ) → v ≡ 1 → list_size v n ≡ 6 * n
  unfolding list_size
  list-one n e = rw (element-one e) (omega arith)

  pub list-two : (n : ℕ) → (v ≡ 1 → ⊥) → list_size v n ≡ 7 * n
  unfolding list_size
  list-two n h = rw (element-two h) (omega arith)

  -- ---- landmarks

  pub leaf_mark_are : (yards : ℕ) → leaf_mark_size v yards ≡ 2 + list_size v yards
  unfolding leaf_mark_size
  leaf_mark_are yards = refl

  pub leaf_mark_most : (yards : ℕ) → leaf_mark_size v yards ≤ 2 + 7 * yards
  leaf_mark_most yards = omega (arith, leaf_mark_are yards, list-most yards)

  -- of either kind
  pub mark_size-most : (children yards : ℕ) → mark_size v children yards ≤ 10 + 7 * yards
  unfolding mark_size
  mark_size-most children yards =
      choose_case (λ n. n ≤ 10 + 7 * yards) (eqb children 0) (λ _. omega (arith, leaf_mark_most yards)) (λ _. omega arith)

  -- the landmarks of a region take few bytes
  pub marks-small : (m children yards : ℕ) → m ≤ 4 → yards ≤ 65535 → m * mark_size v children yards ≤ 1835020
  marks-small m children yards h l =
      omega (arith, mul-le-mul_right (mark_size v children yards) h, mark_size-most children yards)
