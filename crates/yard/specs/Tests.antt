-- The yard book's tests 1 to 5, and 8, each number with the fact that it asks for. Assumes nothing: these are
-- definitions.
use Rattle.std.specs.Prelude.{◌≡◌, List, [], ◌∷◌, ◌++◌, ℕ, ◌+◌, ◌≤◌, ◌<◌, length}
use Rattle.book.specs.Tests.{Test, test, open_tests}
use Rattle.yard.specs.Yards.{latest_yards, yard_count, yard_place, yard_at, yard_kind}

-- "junctions u16, below 1,024, rising strictly", and kinds "not 0"
pub record YardValues (b : List ℕ) : Type 0 where
  pub below : (i : ℕ) → i < yard_count b → yard_at b i < 1024
  pub rising : (i : ℕ) → i + 1 < yard_count b → yard_at b i < yard_at b (i + 1)
  pub kinds : (i : ℕ) → i < yard_count b → 1 ≤ yard_kind b i

abbrev pub yard_tests : List ℕ → List Test
yard_tests b =
    -- 1, 2, and 3: "The header is incomplete": two bytes after the version
    open_tests b latest_yards 2
    -- 3: "a .. yard .. count is outside its limits": yards 1 to 256
    ++ test 3 (1 ≤ yard_count b)
    ∷ test 3 (yard_count b ≤ 256)
    -- 4: "A record is incomplete, or bytes follow the last one.": the yards, one after the other, take up the book to
    -- its end
    ∷ test 4 (length b ≡ yard_place b (yard_count b))
    -- 5: "A record's value is outside its range or order."
    ∷ test 5 (YardValues b)
    ∷ []

-- beside a road book with so many junctions: "a test between books going with the later one"
abbrev pub yard_tests_in : List ℕ → ℕ → List Test
yard_tests_in b n =
    yard_tests b
    -- 8: "a yard isn't a junction of the road book"
    ++ test 8 ((i : ℕ) → i < yard_count b → yard_at b i < n)
    ∷ []
