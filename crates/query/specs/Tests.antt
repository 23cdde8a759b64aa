-- The query book's tests 1 to 4, 10 and 11, each number with the fact that it asks for: "Query values fall to 10 and
-- 11, never to 3 or 5." Assumes nothing: these are definitions.
use Rattle.std.specs.Prelude.{◌≡◌, List, [], ◌∷◌, ◌++◌, ℕ, ◌+◌, ◌*◌, ◌≤◌, ◌<◌, length}
use Rattle.book.specs.Tests.{Test, test, open_tests}
use Rattle.query.specs.Query.{aggregate_of, k_of, crew_count, crew_at}

-- beside a road book with so many junctions
abbrev pub query_tests : List ℕ → ℕ → List Test
query_tests b n =
    -- 1, 2, and 3: "The header is incomplete": seven bytes after the version
    open_tests b 1 7
    -- 4: "A record is incomplete, or bytes follow the last one.": two bytes for each crew, after the twelve before them
    ++ test 4 (length b ≡ 12 + 2 * crew_count b)
    -- 10: "Crews are none, more than 16, or at no junction of the road book."
    ∷ test 10 (1 ≤ crew_count b)
    ∷ test 10 (crew_count b ≤ 16)
    ∷ test 10 ((i : ℕ) → i < crew_count b → crew_at b i < n)
    -- 11: "k, the aggregate code .. is outside its range.": aggregate 0 or 1, k 1 to 64
    ∷ test 11 (aggregate_of b ≤ 1)
    ∷ test 11 (1 ≤ k_of b)
    ∷ test 11 (k_of b ≤ 64)
    ∷ []
