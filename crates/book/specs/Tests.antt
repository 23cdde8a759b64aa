-- "Turned back, in this order": tests in their order, the number of the first that fails, and the tests of the opening
-- that every book shares. Assumes nothing: these are definitions.
use Rattle.std.specs.Prelude.{◌≡◌, ◌⊎◌, List, [], ◌∷◌, ℕ, ◌+◌, ◌≤◌, length}
use Rattle.book.specs.Bytes.{u32_at}
use Rattle.book.specs.Open.{version}

-- a test of the paper's list: its number, and the fact that it asks for
pub record Test : Type 1 where
  pub number : ℕ
  pub fact : Type 0

abbrev pub test : ℕ → Type 0 → Test
test n f = record { number = n; fact = f }

-- n is the number of the first test whose fact does not hold, or 0 if all hold: "The number of an accepted call is 0."
unfoldable pub FirstFailing : List Test → ℕ → Type 0
FirstFailing [] n = n ≡ 0
FirstFailing (t ∷ ts) n = ((t.fact → ⊥) × (n ≡ t.number)) ⊎ (t.fact × FirstFailing ts n)

-- the tests of a book's opening, where such books have versions up to the latest, and a header of so many bytes after
-- the version
abbrev pub open_tests : List ℕ → (latest header : ℕ) → List Test
open_tests b latest header =
    -- 1: "Fewer than five bytes, or the length isn't the count of bytes after it."
    test 1 (5 ≤ length b)
    ∷ test 1 (length b ≡ 4 + u32_at b 0)
    -- 2: "The version isn't 1.", or none that such books have
    ∷ test 2 (1 ≤ version b)
    ∷ test 2 (version b ≤ latest)
    -- 3: "The header is incomplete"
    ∷ test 3 (5 + header ≤ length b)
    ∷ []
