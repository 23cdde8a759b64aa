-- Laws of the numbers in bytes: what is put is read back, what lies elsewhere is kept, and a number is that of its own bytes, wherever they stand.
-- One law, `double`, takes a width to twice that width. Assumes nothing.
use mathlib.Core.Path.{◌≡◌, ◌∙◌}
use mathlib.Core.Logic.{◌≢◌}
use mathlib.Core.List.{List}
use Prim.Native.Nat.{ℕ, ◌+◌, ◌*◌, ◌/◌, ◌%◌, ◌≤◌, ◌<◌}
use native.Mathlib.Nat.{div-add-mod}
use native.Mathlib.Omega.{arith}
use lib.ListN.{length, get_or, set, length-set}
use lib.Seq.{get_or-set_same, get_or-set_other}
use Rattle.book.specs.Bytes.{u8_at, u16_at, u32_at, put_u16, put_u32, Bytes}

-- a way to read and to put a number in w bytes
pub record Width (w : ℕ) (read : List ℕ → ℕ → ℕ) (put : List ℕ → ℕ → ℕ → List ℕ) : Type 0 where
  pub len : (b : List ℕ) (i x : ℕ) → length (put b i x) ≡ length b
  -- a byte that is none of the w from i on is kept
  pub kept : (b : List ℕ) (i x j : ℕ) → ((k : ℕ) → k < w → j ≢ i + k) → get_or (put b i x) j 0 ≡ get_or b j 0
  -- what is put is read back
  pub back : (b : List ℕ) (i x : ℕ) → i + w ≤ length b → read (put b i x) i ≡ x
  -- a number is that of its own w bytes, wherever they stand
  pub own : (b c : List ℕ) (i j : ℕ) → ((k : ℕ) → k < w → get_or b (i + k) 0 ≡ get_or c (j + k) 0) → read b i ≡ read c j

byte : Width 1 (λ b i. get_or b i 0) set
byte = record {
  len = λ b i x. length-set b i x;
  kept = λ b i x j f. get_or-set_other b i j x 0 (λ e. f 0 (omega arith) (omega arith));
  back = λ b i x h. get_or-set_same b i x 0 (omega arith);
  own = λ b c i j f.
      let y : i + 0 ≡ i = omega arith in
      let z : j + 0 ≡ j = omega arith in
      rw (y, z) at (f 0 (omega arith));
}

module _ {w : ℕ} {read : List ℕ → ℕ → ℕ} {put : List ℕ → ℕ → ℕ → List ℕ} (W : Width w read put) (B : ℕ) where
  abbrev read2 : List ℕ → ℕ → ℕ
  read2 b i = B * read b i + read b (i + w)

  abbrev put2 : List ℕ → ℕ → ℕ → List ℕ
  put2 b i x = put (put b i (x / B)) (i + w) (x % B)

  len2 : (b : List ℕ) (i x : ℕ) → length (put2 b i x) ≡ length b
  len2 b i x = W.len _ _ _ ∙ W.len _ _ _

  kept2 : (b : List ℕ) (i x j : ℕ) → ((k : ℕ) → k < w + w → j ≢ i + k) → get_or (put2 b i x) j 0 ≡ get_or b j 0
  kept2 b i x j f =
      W.kept _ _ _ _ (λ k h e. f (w + k) (omega arith) (omega arith)) ∙ W.kept _ _ _ _ (λ k h e. f k (omega arith) e)

  back2 : (b : List ℕ) (i x : ℕ) → i + (w + w) ≤ length b → read2 (put2 b i x) i ≡ x
  back2 b i x h =
      let high : read (put2 b i x) i ≡ x / B =
      W.own _ _ _ _ (λ k l. W.kept _ _ _ _ (λ m n e. omega arith)) ∙ W.back b i (x / B) (omega arith) in
      let low : read (put2 b i x) (i + w) ≡ x % B =
      W.back _ _ _ (omega (arith, W.len b i (x / B))) in
      simp (high, low) (div-add-mod x B)

  own2 : (b c : List ℕ) (i j : ℕ) → ((k : ℕ) → k < w + w → get_or b (i + k) 0 ≡ get_or c (j + k) 0) → read2 b i ≡ read2 c j
  own2 b c i j f =
      let high : read b i ≡ read c j = W.own b c i j (λ k h. f k (omega arith)) in
      let low : read b (i + w) ≡ read c (j + w) =
      W.own b c (i + w) (j + w) (λ k h.
      let y : i + w + k ≡ i + (w + k) = omega arith in
      let z : j + w + k ≡ j + (w + k) = omega arith in
      rw (y, z) (f (w + k) (omega arith))) in
      simp (high, low)

  double : Width (w + w) read2 put2
  double = record { len = len2; kept = kept2; back = back2; own = own2 }

pub word16 : Width 2 u16_at put_u16
unfolding u16_at put_u16
word16 = double byte 256

pub word32 : Width 4 u32_at put_u32
unfolding u32_at put_u32
word32 = double word16 65536

pub u8_small : (b : List ℕ) → Bytes b → (i : ℕ) → u8_at b i < 256
unfolding u8_at Bytes
u8_small b h i = h i

pub u16_small : (b : List ℕ) → Bytes b → (i : ℕ) → u16_at b i < 65536
unfolding u16_at Bytes
u16_small b h i = omega (arith, h i, h (i + 1))

pub u32_small : (b : List ℕ) → Bytes b → (i : ℕ) → u32_at b i < 4294967296
unfolding u32_at
u32_small b h i = omega (arith, u16_small b h i, u16_small b h (i + 2))
