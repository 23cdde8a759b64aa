-- Bits of bytes, one by one. Assumes nothing.
use mathlib.Core.Path.{◌≡◌, refl, sym, ap, ◌∙◌}
use Prim.Native.Nat.{ℕ, zero, suc, ◌/◌, ◌%◌, ◌^◌, ◌≤◌, min, max}
use native.Mathlib.Nat.{pow-suc, div-div-eq-div-mul, mul_comm, zero-div, div-one}
use native.Mathlib.Omega.{arith}
use lib.Bits.{bit_and, bit_or, and_step, or_step, and_shr, or_shr}
use lib.Arith.{bin_ind}
use Rattle.kinds.specs.Facts.{HasBit}

-- ---- the lowest bit

and_low : (x y : ℕ) → bit_and x y % 2 ≡ min (x % 2) (y % 2)
and_low x y = omega (arith, and_step x y)

or-low : (x y : ℕ) → bit_or x y % 2 ≡ max (x % 2) (y % 2)
or-low x y = omega (arith, or_step x y)

-- ---- bit j

pub and_bit : (a b j : ℕ) → bit_and a b / 2 ^ j % 2 ≡ min (a / 2 ^ j % 2) (b / 2 ^ j % 2)
and_bit a b j = rw (and_shr a b j) (and_low (a / 2 ^ j) (b / 2 ^ j))

pub or_bit : (a b j : ℕ) → bit_or a b / 2 ^ j % 2 ≡ max (a / 2 ^ j % 2) (b / 2 ^ j % 2)
or_bit a b j = rw (or_shr a b j) (or-low (a / 2 ^ j) (b / 2 ^ j))

-- bit j + 1 is bit j of the half
pub next_bit : (n j : ℕ) → n / 2 ^ suc j % 2 ≡ n / 2 / 2 ^ j % 2
next_bit n j = ap (λ x. x % 2) (ap (λ x. n / x) (pow-suc 2 j ∙ mul_comm (2 ^ j) 2) ∙ sym (div-div-eq-div-mul n 2 (2 ^ j)))

low_bit : (n : ℕ) → n / 2 ^ 0 % 2 ≡ n % 2
low_bit n = ap (λ x. x % 2) (div-one n)

zero_bit : (j : ℕ) → 0 / 2 ^ j % 2 ≡ 0
zero_bit j = ap (λ x. x % 2) (zero-div (2 ^ j))

-- a number that is not 0 has a bit that is set
pub some_bit : (n : ℕ) → 1 ≤ n → (j : ℕ) × HasBit j n
some_bit = bin_ind (λ n. 1 ≤ n → (j : ℕ) × HasBit j n) (λ h. absurd (omega (arith, h))) step
  where
    by_low : (n r : ℕ) → r ≡ n % 2 → (1 ≤ n / 2 → (j : ℕ) × HasBit j (n / 2)) → 1 ≤ n → (j : ℕ) × HasBit j n
    by_low n zero e up h =
        let k = up (omega (arith, e, h)) in
        (suc k.0, next_bit n k.0 ∙ k.1)
    by_low n (suc r) e up h = (0, low_bit n ∙ omega (arith, e))

    step : (n : ℕ) → (1 ≤ n / 2 → (j : ℕ) × HasBit j (n / 2)) → 1 ≤ n → (j : ℕ) × HasBit j n
    step n up h = by_low n (n % 2) refl up h

-- numbers with the same bits are the same
pub same_bits : (a b : ℕ) → ((j : ℕ) → a / 2 ^ j % 2 ≡ b / 2 ^ j % 2) → a ≡ b
same_bits = bin_ind (λ a. (b : ℕ) → ((j : ℕ) → a / 2 ^ j % 2 ≡ b / 2 ^ j % 2) → a ≡ b) base step
  where
    base : (b : ℕ) → ((j : ℕ) → 0 / 2 ^ j % 2 ≡ b / 2 ^ j % 2) → 0 ≡ b
    base zero f = refl
    base (suc b) f =
        let k = some_bit (suc b) (omega arith) in
        let z : 0 / 2 ^ k.0 % 2 ≡ 0 = zero_bit k.0 in
        absurd (omega (arith, f k.0, k.1, z))

    step : (a : ℕ) → ((b : ℕ) → ((j : ℕ) → a / 2 / 2 ^ j % 2 ≡ b / 2 ^ j % 2) → a / 2 ≡ b) → (b : ℕ)
        → ((j : ℕ) → a / 2 ^ j % 2 ≡ b / 2 ^ j % 2) → a ≡ b
    step a up b f =
        let low : a % 2 ≡ b % 2 = sym (low_bit a) ∙ f 0 ∙ low_bit b in
        let high = up (b / 2) (λ j. sym (next_bit a j) ∙ f (suc j) ∙ next_bit b j) in
        omega (arith, low, high)
