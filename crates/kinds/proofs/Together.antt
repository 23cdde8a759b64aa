-- The bits of yards together are a byte: not 0, at most 255, and 255 if all are. Assumes nothing.
use mathlib.Core.Path.{◌≡◌, refl, ap, ◌∙◌}
use mathlib.Core.List.Memᴰ.{head}
use mathlib.Core.List.Memᴰ.{tail}
use mathlib.Core.List.{List, [], ◌∷◌, Memᴰ as Mem}
use Prim.Native.Nat.{ℕ, ◌^◌, ◌≤◌, ◌<◌}
use native.Mathlib.Omega.{arith}
use lib.ListN.{length}
use lib.Bits.{bit_or, or_lt, or_add_and, and_le_r, or_self, or_zero_l}
use Rattle.kinds.specs.Kinds.{together_from, together}

-- two bytes together are a byte, no less than the first
or_byte : (a b : ℕ) → a ≤ 255 → b ≤ 255 → bit_or a b ≤ 255
or_byte a b h k =
    let e : 2 ^ 8 ≡ 256 = refl in
    let p : a < 2 ^ 8 = rw e (omega arith) in
    let q : b < 2 ^ 8 = rw e (omega arith) in
    let r : bit_or a b < 256 = rw e at (or_lt 8 a b p q) in
    omega (arith, r)

or-least : (a b : ℕ) → a ≤ bit_or a b
or-least a b = omega (arith, or_add_and a b, and_le_r a b)

module _ (f : ℕ → ℕ) where
  -- ---- one yard at a time

  pub from-none : (x : ℕ) → together_from f x [] ≡ x
  unfolding together_from
  from-none x = refl

  pub from_next : (x y : ℕ) (ys : List ℕ) → together_from f x (y ∷ ys) ≡ together_from f (bit_or x (f y)) ys
  unfolding together_from
  from_next x y ys = refl

  pub together-from : (ys : List ℕ) → together f ys ≡ together_from f 0 ys
  unfolding together
  together-from ys = refl

  -- ---- bounds

  from-most : (x : ℕ) (ys : List ℕ) → x ≤ 255 → ((y : ℕ) → Mem y ys → f y ≤ 255) → together_from f x ys ≤ 255
  unfolding together_from
  from-most x [] h k = h
  from-most x (y ∷ ys) h k = from-most (bit_or x (f y)) ys (or_byte x (f y) h (k y (head refl))) (λ z m. k z (tail m))

  from-least : (x : ℕ) (ys : List ℕ) → x ≤ together_from f x ys
  unfolding together_from
  from-least x [] = omega arith
  from-least x (y ∷ ys) = omega (arith, or-least x (f y), from-least (bit_or x (f y)) ys)

  from-any : (x : ℕ) (ys : List ℕ) → x ≡ 255 → ((y : ℕ) → Mem y ys → f y ≡ 255) → together_from f x ys ≡ 255
  unfolding together_from
  from-any x [] e k = e
  from-any x (y ∷ ys) e k = from-any (bit_or x (f y)) ys (rw (e, k y (head refl)) (or_self 255)) (λ z m. k z (tail m))

  -- of bytes
  pub together-most : (ys : List ℕ) → ((y : ℕ) → Mem y ys → f y ≤ 255) → together f ys ≤ 255
  together-most ys h = rw (together-from ys) (from-most 0 ys (omega arith) h)

  -- of one or more yards, each with some bit
  pub together-least : (ys : List ℕ) → 0 < length ys → ((y : ℕ) → Mem y ys → 1 ≤ f y) → 1 ≤ together f ys
  together-least [] h k = absurd (omega arith)
  together-least (y ∷ ys) h k =
      let e : together f (y ∷ ys) ≡ together_from f (f y) ys = together-from (y ∷ ys) ∙ from_next 0 y ys ∙ ap (λ x. together_from f x ys) (or_zero_l (f y)) in
      omega (arith, e, from-least (f y) ys, k y (head refl))

  -- of one or more yards, each with all bits
  pub together-any : (ys : List ℕ) → 0 < length ys → ((y : ℕ) → Mem y ys → f y ≡ 255) → together f ys ≡ 255
  together-any [] h k = absurd (omega arith)
  together-any (y ∷ ys) h k =
      together-from (y ∷ ys) ∙ from_next 0 y ys ∙ ap (λ x. together_from f x ys) (or_zero_l (f y))
      ∙ from-any (f y) ys (k y (head refl)) (λ z m. k z (tail m))
