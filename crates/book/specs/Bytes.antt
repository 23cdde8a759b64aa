-- Numbers in bytes: "Everything is unsigned and big-endian; u8, u16 and u32 have 1, 2 and 4 bytes." Assumes nothing:
-- these are definitions.
use Rattle.std.specs.Prelude.{ℕ, ◌+◌, ◌*◌, ◌/◌, ◌%◌, ◌<◌, List, [], ◌∷◌, ◌++◌, get_or, set}

-- the byte at i
unfoldable pub u8_at : List ℕ → ℕ → ℕ
u8_at b i = get_or b i 0

-- the number of two bytes at i
unfoldable pub u16_at : List ℕ → ℕ → ℕ
u16_at b i = 256 * get_or b i 0 + get_or b (i + 1) 0

-- the number of four bytes at i
unfoldable pub u32_at : List ℕ → ℕ → ℕ
u32_at b i = 65536 * u16_at b i + u16_at b (i + 2)

-- b with the two bytes of x at i
unfoldable pub put_u16 : List ℕ → ℕ → ℕ → List ℕ
put_u16 b i x = set (set b i (x / 256)) (i + 1) (x % 256)

-- b with the four bytes of x at i
unfoldable pub put_u32 : List ℕ → ℕ → ℕ → List ℕ
put_u32 b i x = put_u16 (put_u16 b i (x / 65536)) (i + 2) (x % 65536)

-- every number of the list is a byte
unfoldable pub Bytes : List ℕ → Type 0
Bytes b = (i : ℕ) → get_or b i 0 < 256
