-- The numbers of a row: a junction's greatest distance to any junction, and the sum of its distances to all.
-- Assumes nothing: these are definitions.
use Rattle.std.specs.Prelude.{List, ℕ, zero, suc, ◌+◌, max, get_or}

-- the greatest of the first n distances (the eccentricity)
unfoldable pub furthest_of : List ℕ → ℕ → ℕ
furthest_of ds zero = 0
furthest_of ds (suc n) = max (furthest_of ds n) (get_or ds n 0)

-- the sum of the first n distances
unfoldable pub row_total : List ℕ → ℕ → ℕ
row_total ds zero = 0
row_total ds (suc n) = row_total ds n + get_or ds n 0
