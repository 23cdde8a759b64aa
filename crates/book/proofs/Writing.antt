-- Laws of a number's bytes and of what is written: what is written is read back, one field after the other. Assumes nothing.
use mathlib.Core.Path.{◌≡◌, refl, sym, ap, ◌∙◌}
use mathlib.Core.Logic.{◌⊎◌, inl, inr}
use mathlib.Core.List.{List, [], ◌∷◌, ◌++◌, append_assoc}
use Prim.Native.Nat.{ℕ, zero, suc, ◌+◌, ◌-◌, ◌*◌, ◌/◌, ◌%◌, ◌≤◌, ◌<◌}
use native.Mathlib.Omega.{arith}
use lib.ListN.{length, get_or, set, take, drop, length-append, length-set}
use Rattle.std.specs.Int.{w16, w32, to_be_bytes}
use lib.Seq.{get_or-drop, drop-drop, sets, sets-eq}
use Rattle.book.specs.Bytes.{u8_at, u16_at, u32_at, put_u16, put_u32, Bytes}
use Rattle.book.specs.Writing.{u16_bytes, u32_bytes, write}

-- ---- lengths

pub u16_length : (x : ℕ) → length (u16_bytes x) ≡ 2
unfolding u16_bytes
u16_length x = refl

pub u32_length : (x : ℕ) → length (u32_bytes x) ≡ 4
unfolding u32_bytes u16_bytes
u32_length x = refl

-- ---- every number of a list is a byte

-- a lent book is of bytes: what is known of each of its numbers
pub lent-bytes : (l : List ℕ) → ((i : ℕ) → get_or l i 0 < 256) → Bytes l
unfolding Bytes
lent-bytes l f = f

pub bytes-none : Bytes []
unfolding Bytes
bytes-none i = omega arith

pub bytes-cons : (x : ℕ) (l : List ℕ) → x < 256 → Bytes l → Bytes (x ∷ l)
unfolding Bytes
bytes-cons x l h f zero = h
bytes-cons x l h f (suc i) = f i

bytes_tail : (x : ℕ) (l : List ℕ) → Bytes (x ∷ l) → (x < 256) × Bytes l
unfolding Bytes
bytes_tail x l f = (f 0, λ i. f (suc i))

pub bytes-append : (l r : List ℕ) → Bytes l → Bytes r → Bytes (l ++ r)
bytes-append [] r f g = g
bytes-append (x ∷ l) r f g = let h = bytes_tail x l f in bytes-cons x (l ++ r) h.0 (bytes-append l r h.1 g)

pub u16_bytes_lem : (x : ℕ) → x < 65536 → Bytes (u16_bytes x)
unfolding u16_bytes
u16_bytes_lem x h = bytes-cons (x / 256) (x % 256 ∷ []) (omega arith) (bytes-cons (x % 256) [] (omega arith) bytes-none)

pub u32_bytes_lem : (x : ℕ) → x < 4294967296 → Bytes (u32_bytes x)
unfolding u32_bytes
u32_bytes_lem x h = bytes-append (u16_bytes (x / 65536)) (u16_bytes (x % 65536)) (u16_bytes_lem (x / 65536) (omega arith)) (u16_bytes_lem (x % 65536) (omega arith))

-- ---- reading what stands from a place on

-- from place `at` on the bytes of b are s
pub record Rest (b : List ℕ) (at : ℕ) (s : List ℕ) : Type 0 where
  pub same : drop at b ≡ s
  pub whole : at + length s ≡ length b

pub rest_all : (b : List ℕ) → Rest b 0 b
rest_all b = record { same = refl; whole = omega arith }

byte_here : (b : List ℕ) (at x : ℕ) (s : List ℕ) → Rest b at (x ∷ s) → get_or b at 0 ≡ x
byte_here b at x s h = ap (λ (n : ℕ). get_or b n 0) (let e : at ≡ at + 0 = omega arith in
    e) ∙ (sym (get_or-drop at b 0 0) ∙ ap (λ (l : List ℕ). get_or l 0 0) h.same)

pub read_u8 : (b : List ℕ) (at x : ℕ) (s : List ℕ) → Rest b at (x ∷ s) → u8_at b at ≡ x
unfolding u8_at
read_u8 b at x s h = byte_here b at x s h

pub next_u8 : (b : List ℕ) (at x : ℕ) (s : List ℕ) → Rest b at (x ∷ s) → Rest b (at + 1) s
next_u8 b at x s h = record { same = sym (drop-drop 1 at b) ∙ ap (λ (l : List ℕ). drop 1 l) h.same; whole = omega (arith, h.whole) }

pub read_u16 : (b : List ℕ) (at x : ℕ) (s : List ℕ) → Rest b at (u16_bytes x ++ s) → u16_at b at ≡ x
unfolding u16_at u16_bytes
read_u16 b at x s h = omega (arith, byte_here b at (x / 256) (x % 256 ∷ s) h, byte_here b (at + 1) (x % 256) s (next_u8 b at (x / 256) (x % 256 ∷ s) h))

pub next_u16 : (b : List ℕ) (at x : ℕ) (s : List ℕ) → Rest b at (u16_bytes x ++ s) → Rest b (at + 2) s
unfolding u16_bytes
next_u16 b at x s h = rw (let e : at + 2 ≡ at + 1 + 1 = omega arith in e) (next_u8 b (at + 1) (x % 256) s (next_u8 b at (x / 256) (x % 256 ∷ s) h))

halves : (x : ℕ) (s : List ℕ) → u32_bytes x ++ s ≡ u16_bytes (x / 65536) ++ (u16_bytes (x % 65536) ++ s)
unfolding u32_bytes
halves x s = append_assoc (u16_bytes (x / 65536)) (u16_bytes (x % 65536)) s

pub read_u32 : (b : List ℕ) (at x : ℕ) (s : List ℕ) → Rest b at (u32_bytes x ++ s) → u32_at b at ≡ x
unfolding u32_at
read_u32 b at x s h =
    let g = rw (halves x s) at h in
    omega (
      arith,
      read_u16 b at (x / 65536) (u16_bytes (x % 65536) ++ s) g,
      read_u16 b (at + 2) (x % 65536) s (next_u16 b at (x / 65536) (u16_bytes (x % 65536)
          ++ s) g),
    )

pub next_u32 : (b : List ℕ) (at x : ℕ) (s : List ℕ) → Rest b at (u32_bytes x ++ s) → Rest b (at + 4) s
next_u32 b at x s h =
    let g = rw (halves x s) at h in
    rw (let e : at + 4 ≡ at + 2 + 2 = omega arith in e) (next_u16 b (at + 2) (x % 65536) s (next_u16 b at (x / 65536) (u16_bytes (x % 65536) ++ s) g))

-- ---- writing

pub write-none : (b : List ℕ) (i : ℕ) → write b i [] ≡ b
unfolding write
write-none b i = refl

-- one byte
pub write_u8 : (b : List ℕ) (i x : ℕ) → set b i x ≡ write b i (x ∷ [])
unfolding write
write_u8 b i x = refl

-- a number's bytes
pub write_u16 : (b : List ℕ) (i x : ℕ) → put_u16 b i x ≡ write b i (u16_bytes x)
unfolding put_u16 write u16_bytes
write_u16 b i x = refl

pub write-length : (w b : List ℕ) (i : ℕ) → length (write b i w) ≡ length b
unfolding write
write-length [] b i = refl
write-length (x ∷ w) b i = write-length w (set b i x) (i + 1) ∙ length-set b i x

-- one list after another
pub write-append : (v w b : List ℕ) (i : ℕ) → write b i (v ++ w) ≡ write (write b i v) (i + length v) w
unfolding write
write-append [] w b i = rw (let e : i + 0 ≡ i = omega arith in e) refl
write-append (x ∷ v) w b i = write-append v w (set b i x) (i + 1)
    ∙ ap (λ (n : ℕ). write (write (set b i x) (i + 1) v) n w) (let e : i + 1 + length v ≡ i + suc (length v) = omega arith in e)

pub write_u32 : (b : List ℕ) (i x : ℕ) → put_u32 b i x ≡ write b i (u32_bytes x)
unfolding put_u32 u32_bytes
write_u32 b i x =
    write_u16 (put_u16 b i (x / 65536)) (i + 2) (x % 65536)
    ∙ (ap (λ (l : List ℕ). write l (i + 2) (u16_bytes (x % 65536))) (write_u16 b i (x / 65536))
    ∙ sym (write-append (u16_bytes (x / 65536)) (u16_bytes (x % 65536)) b i ∙ rw (u16_length (x / 65536)) refl))

-- what is written stands between what was before it and what was after it
write_sets : (w b : List ℕ) (i : ℕ) → write b i w ≡ sets b i w
unfolding write
write_sets [] b i = refl
write_sets (x ∷ w) b i = ap (λ (n : ℕ). write (set b i x) n w) (let e : i + 1 ≡ suc i = omega arith in e) ∙ write_sets w (set b i x) (suc i)

pub write-is : (w b : List ℕ) (i : ℕ) → i + length w ≤ length b → write b i w ≡ take i b ++ w ++ drop (i + length w) b
write-is w b i h = write_sets w b i ∙ sets-eq w b i h

-- a number's bytes copied over the part of b that was lent
copied : (w b p : List ℕ) (i n : ℕ) → n ≡ i + length w → n ≤ length b → p ≡ w → take i b ++ (p ++ drop (n - i) (drop i b)) ≡ write b i w
copied w b p i n e h s =
    let m : i + (n - i) ≡ i + length w = omega arith in
    rw (s, drop-drop, m) (sym (write-is w b i (omega arith) ∙ append_assoc (take i b) w (drop (i + length w) b)))

pub copied_u16 : (b p : List ℕ) (i x : ℕ) → i + 2 ≤ length b → x < 65536 → p ≡ to_be_bytes w16 x
    → take i b ++ (p ++ drop (i + 2 - i) (drop i b)) ≡ put_u16 b i x
unfolding u16_bytes
copied_u16 b p i x h s e =
    let high : x / 256 % 256 ≡ x / 256 = omega arith in
    copied (u16_bytes x) b p i (i + 2) refl h (e ∙ rw high refl) ∙ sym (write_u16 b i x)

pub copied_u32 : (b p : List ℕ) (i x : ℕ) → i + 4 ≤ length b → x < 4294967296 → p ≡ to_be_bytes w32 x
    → take i b ++ (p ++ drop (i + 4 - i) (drop i b)) ≡ put_u32 b i x
unfolding u32_bytes u16_bytes
copied_u32 b p i x h s e =
    let first : x / 16777216 % 256 ≡ x / 65536 / 256 = omega arith in
    let third : x / 256 % 256 ≡ x % 65536 / 256 = omega arith in
    let fourth : x % 256 ≡ x % 65536 % 256 = omega arith in
    copied (u32_bytes x) b p i (i + 4) refl h (e ∙ rw (first, third, fourth) refl) ∙ sym (write_u32 b i x)
