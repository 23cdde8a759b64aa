-- A number's bytes as a list, and a list of bytes written over a part of another. Assumes nothing: these are
-- definitions.
use Rattle.std.specs.Prelude.{ℕ, suc, ◌+◌, ◌/◌, ◌%◌, List, [], ◌∷◌, ◌++◌, set}

-- the two bytes of a number, the high one first: "unsigned and big-endian"
unfoldable pub u16_bytes : ℕ → List ℕ
u16_bytes x = x / 256 ∷ x % 256 ∷ []

-- its four bytes
unfoldable pub u32_bytes : ℕ → List ℕ
u32_bytes x = u16_bytes (x / 65536) ++ u16_bytes (x % 65536)

-- b with the bytes w from place i on
unfoldable pub write : List ℕ → ℕ → List ℕ → List ℕ
write b i [] = b
write b i (x ∷ w) = write (set b i x) (i + 1) w
