-- Where yards stand in a book, by its version. Assumes nothing.
use mathlib.Core.Path.{◌≡◌, refl, sym}
use mathlib.Core.List.{List}
use Prim.Native.Nat.{ℕ, suc, ◌+◌, ◌*◌, ◌≤◌, ◌<◌}
use native.Mathlib.Nat.{suc-mul, mul-le-mul_left, mul-le-mul_right}
use native.Mathlib.Omega.{arith}
use Rattle.book.specs.Open.{version}
use Rattle.kinds.specs.Kinds.{kind_size}
use Rattle.kinds.proofs.Reading.{size-most}
use Rattle.yard.specs.Yards.{yards_size, yard_place}

-- one yard more
size-more : (v n : ℕ) → yards_size v (suc n) ≡ yards_size v n + (2 + kind_size v)
unfolding yards_size
size-more v n = simp suc-mul

-- fewer yards take up no more
size-le : (v m n : ℕ) → m ≤ n → yards_size v m ≤ yards_size v n
unfolding yards_size
size-le v m n h = mul-le-mul_right (2 + kind_size v) h

-- a yard has three bytes at most
size-three : (v n : ℕ) → yards_size v n ≤ n * 3
unfolding yards_size
size-three v n = mul-le-mul_left n (omega (arith, size-most v))

module _ (b : List ℕ) where
  -- where the definition has it, as code computes it
  pub place_is : (i : ℕ) → yard_place b i ≡ 7 + i * (2 + kind_size (version b))
  unfolding yard_place yards_size
  place_is i = refl

  -- a yard before number n ends at or before it
  pub place-room : (i n : ℕ) → i < n → yard_place b i + (2 + kind_size (version b)) ≤ yard_place b n
  unfolding yard_place
  place-room i n h = omega (arith, size-more (version b) i, size-le (version b) (suc i) n (omega (arith, h)))

  -- as code computes it, of the version and the size that it read
  pub place_by : (i v s : ℕ) → v ≡ version b → s ≡ kind_size v → 7 + i * (2 + s) ≡ yard_place b i
  place_by i v s e f = rw (f, e) (sym (place_is i))

  pub place-most : (i : ℕ) → yard_place b i ≤ 7 + 3 * i
  unfolding yard_place
  place-most i = omega (arith, size-three (version b) i)

-- such a product is far below what a word holds
pub product_small : (i s : ℕ) → i ≤ 65535 → s ≤ 1 → i * (2 + s) ≤ 196605
product_small i s h k = omega (arith, h, three)
  where
    three : i * (2 + s) ≤ i * 3
    three = mul-le-mul_left i (omega (arith, k))
