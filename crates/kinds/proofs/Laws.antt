-- What two bytes share, and the bits of yards together. Assumes nothing.
use mathlib.Core.Path.{◌≡◌, refl, sym, ap, ◌∙◌}
use mathlib.Core.Logic.{◌⊎◌, inl, inr, ◌↔◌}
use mathlib.Core.Bool.{not}
use mathlib.Core.List.Memᴰ.{head}
use mathlib.Core.List.Memᴰ.{tail}
use mathlib.Core.List.{List, [], ◌∷◌, Memᴰ as Mem}
use Prim.Native.Nat.{ℕ, zero, suc, ◌/◌, ◌%◌, ◌^◌, ◌≤◌, min, max}
use native.Mathlib.Nat.{zero-div}
use native.Mathlib.Omega.{arith}
use lib.Bits.{bit_and, bit_or}
use lib.Dec.{T, eqb, eqb→eq, not_T}
use Rattle.kinds.specs.Kinds.{shares, together_from, together}
use Rattle.kinds.specs.Facts.{HasBit, BitsOf, KindLaws}
use Rattle.kinds.proofs.Bits.{and_bit, or_bit, some_bit, same_bits}

-- ---- sharing

pub shares-some : (a b : ℕ) → T (shares a b) → 1 ≤ bit_and a b
unfolding shares
shares-some a b t = go (bit_and a b) t
  where
    go : (n : ℕ) → T (not (eqb n 0)) → 1 ≤ n
    go zero t = absurd t
    go (suc n) t = omega arith

pub some-shares : (a b : ℕ) → 1 ≤ bit_and a b → T (shares a b)
unfolding shares
some-shares a b h = not_T (eqb (bit_and a b) 0) (λ t. omega (arith, eqb→eq (bit_and a b) 0 t, h))

-- a bit that is set in both is shared
pub shares_bit : (a b j : ℕ) → HasBit j a → HasBit j b → T (shares a b)
shares_bit a b j p q = some-shares a b (positive (bit_and a b) (and_bit a b j))
  where
    positive : (n : ℕ) → n / 2 ^ j % 2 ≡ min (a / 2 ^ j % 2) (b / 2 ^ j % 2) → 1 ≤ n
    positive zero e = absurd (omega (arith, e, p, q, none))
      where
        none : 0 / 2 ^ j % 2 ≡ 0
        none = ap (λ x. x % 2) (zero-div (2 ^ j))
    positive (suc n) e = omega arith

pub shared_bit : (a b : ℕ) → T (shares a b) → (j : ℕ) × HasBit j a × HasBit j b
shared_bit a b t =
    let s = some_bit (bit_and a b) (shares-some a b t) in
    let j = s.0 in
    let e = and_bit a b j in
    (j, omega (arith, e, s.1), omega (arith, e, s.1))

-- ---- together

-- a bit of the bits together is one of x's or of some yard's
pub from_some : (f : ℕ → ℕ) (x : ℕ) (ys : List ℕ) (j : ℕ) → HasBit j (together_from f x ys)
    → HasBit j x ⊎ ((y : ℕ) × Mem y ys × HasBit j (f y))
unfolding together_from
from_some f x [] j h = inl h
from_some f x (y ∷ ys) j h = go (from_some f (bit_or x (f y)) ys j h)
  where
    either : (p q : ℕ) → p ≤ 1 → q ≤ 1 → max p q ≡ 1 → (p ≡ 1) ⊎ (q ≡ 1)
    either zero q hp hq e = inr (omega (arith, e))
    either (suc p) q hp hq e = inl (omega (arith, hp))

    go : HasBit j (bit_or x (f y)) ⊎ ((z : ℕ) × Mem z ys × HasBit j (f z))
        → HasBit j x ⊎ ((z : ℕ) × Mem z (y ∷ ys) × HasBit j (f z))
    go (inr (z, m, b)) = inr (z, tail m, b)
    go (inl b) = which (either (x / 2 ^ j % 2) (f y / 2 ^ j % 2) (omega arith) (omega arith) (sym (or_bit x (f y) j) ∙ b))
      where
        which : (x / 2 ^ j % 2 ≡ 1) ⊎ (f y / 2 ^ j % 2 ≡ 1) → HasBit j x ⊎ ((z : ℕ) × Mem z (y ∷ ys) × HasBit j (f z))
        which (inl p) = inl p
        which (inr q) = inr (y, head refl, q)

-- a bit of x is one of the bits together
pub from_first : (f : ℕ → ℕ) (x : ℕ) (ys : List ℕ) (j : ℕ) → HasBit j x → HasBit j (together_from f x ys)
unfolding together_from
from_first f x [] j h = h
from_first f x (y ∷ ys) j h = from_first f (bit_or x (f y)) ys j (omega (arith, or_bit x (f y) j, h, one))
  where
    one : f y / 2 ^ j % 2 ≤ 1
    one = omega arith

-- and so is a yard's
pub from-every : (f : ℕ → ℕ) (x : ℕ) (ys : List ℕ) (j y : ℕ) → Mem y ys → HasBit j (f y) → HasBit j (together_from f x ys)
unfolding together_from
from-every f x [] j y x4 h = elim x4 [ ]
from-every f x (z ∷ ys) j y (head e) h = from_first f (bit_or x (f z)) ys j (omega (arith, or_bit x (f z) j, here, one))
  where
    here : f z / 2 ^ j % 2 ≡ 1
    here = ap (λ v. f v / 2 ^ j % 2) (sym e) ∙ h

    one : x / 2 ^ j % 2 ≤ 1
    one = omega arith
from-every f x (z ∷ ys) j y (tail m) h = from-every f (bit_or x (f z)) ys j y m h

pub together-bits : (f : ℕ → ℕ) (ys : List ℕ) → BitsOf (λ y. Mem y ys) (λ y k. f y ≡ k) (together f ys)
unfolding together
together-bits f ys = record {
  some = λ j h. found j (from_some f 0 ys j h);
  every = λ j y k m e h. from-every f 0 ys j y m (ap (λ v. v / 2 ^ j % 2) e ∙ h);
}
  where
    found : (j : ℕ) → HasBit j 0 ⊎ ((y : ℕ) × Mem y ys × HasBit j (f y)) → (y : ℕ) × (k : ℕ) × Mem y ys × (f y ≡ k) × HasBit j k
    found j (inl h) = absurd (omega (arith, h, none))
      where
        none : 0 / 2 ^ j % 2 ≡ 0
        none = ap (λ x. x % 2) (zero-div (2 ^ j))
    found j (inr (y, m, h)) = (y, f y, m, refl, h)

-- ---- one byte only

-- two bytes that have the bits of the same yards are the same
pub one_byte : (Yard : ℕ → Type 0) (Kind : ℕ → ℕ → Type 0) (a b : ℕ) → BitsOf Yard Kind a → BitsOf Yard Kind b → a ≡ b
one_byte Yard Kind a b p q = same_bits a b (λ j. same j (a / 2 ^ j % 2) (b / 2 ^ j % 2) refl refl (omega arith) (omega arith))
  where
    over : (x y : ℕ) → BitsOf Yard Kind x → BitsOf Yard Kind y → (j : ℕ) → HasBit j x → HasBit j y
    over x y s t j h = let w = s.some j h in t.every j w.0 w.1 w.2 w.3 w.4

    same : (j s t : ℕ) → s ≡ a / 2 ^ j % 2 → t ≡ b / 2 ^ j % 2 → s ≤ 1 → t ≤ 1 → a / 2 ^ j % 2 ≡ b / 2 ^ j % 2
    same j zero zero e f hs ht = sym e ∙ f
    same j (suc s) t e f hs ht = let x : a / 2 ^ j % 2 ≡ 1 = omega (arith, e, hs) in x ∙ sym (over a b p q j x)
    same j zero (suc t) e f hs ht = let x : b / 2 ^ j % 2 ≡ 1 = omega (arith, f, ht) in over b a q p j x ∙ sym x

-- ---- the statement

pub kind_laws : KindLaws
kind_laws = record {
  shared = λ a b. (shared_bit a b, λ x. shares_bit a b x.0 x.1 x.2);
  joined = together-bits;
  one = λ a b h. same_bits a b (digits a b h);
}
  where
    digits : (a b : ℕ) → ((j : ℕ) → HasBit j a ↔ HasBit j b) → (j : ℕ) → a / 2 ^ j % 2 ≡ b / 2 ^ j % 2
    digits a b h j = same (a / 2 ^ j % 2) (b / 2 ^ j % 2) refl refl (omega arith) (omega arith)
      where
        same : (s t : ℕ) → s ≡ a / 2 ^ j % 2 → t ≡ b / 2 ^ j % 2 → s ≤ 1 → t ≤ 1 → a / 2 ^ j % 2 ≡ b / 2 ^ j % 2
        same zero zero e f hs ht = sym e ∙ f
        same (suc s) t e f hs ht = let x : a / 2 ^ j % 2 ≡ 1 = omega (arith, e, hs) in x ∙ sym ((h j).0 x)
        same zero (suc t) e f hs ht = let x : b / 2 ^ j % 2 ≡ 1 = omega (arith, f, ht) in (h j).1 x ∙ sym x
