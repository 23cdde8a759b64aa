-- Kinds of yard: "a kind byte .., one bit per kind, not 0". Assumes nothing: these are definitions.
use Rattle.std.specs.Prelude.{Bool, not, List, [], ◌∷◌, ℕ, eqb}
use Rattle.std.specs.Int.Bits.{bit_and, bit_or}
use Rattle.book.specs.Choose.{choose}
use Rattle.book.specs.Bytes.{u8_at}

-- two bytes share a bit
unfoldable pub shares : ℕ → ℕ → Bool
shares a b = not (eqb (bit_and a b) 0)

-- the bits of x and of a byte for each yard of a list
unfoldable pub together_from : (ℕ → ℕ) → ℕ → List ℕ → ℕ
together_from f x [] = x
together_from f x (y ∷ ys) = together_from f (bit_or x (f y)) ys

-- the bits of a byte for each yard of a list: "a bit is set exactly if some yard .. has it"
unfoldable pub together : (ℕ → ℕ) → List ℕ → ℕ
together f ys = together_from f 0 ys

-- the bytes that a kind takes up in a book of a version: "Version 1 books are read with kind 255 throughout"
unfoldable pub kind_size : ℕ → ℕ
kind_size version = choose (eqb version 1) 0 1

-- the kind at a place of a book, or of a part of one, of a version
unfoldable pub kind_at : ℕ → List ℕ → ℕ → ℕ
kind_at version b at = choose (eqb version 1) 255 (u8_at b at)
