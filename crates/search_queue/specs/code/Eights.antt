-- Eight words at a time. Assumes nothing: these are definitions.
use Rattle.std.specs.Prelude.{Bool, ◌&&◌, List, ℕ, ◌+◌, min, length, get_or, leb}

-- the least of the four words from number j on
unfoldable pub least_of_four : List ℕ → ℕ → ℕ
least_of_four ws j = min (min (get_or ws j 0) (get_or ws (j + 1) 0)) (min (get_or ws (j + 2) 0) (get_or ws (j + 3) 0))

-- the least of the eight words from number j on
unfoldable pub least_of_eight : List ℕ → ℕ → ℕ
least_of_eight ws j = min (least_of_four ws j) (least_of_four ws (j + 4))

-- there are eight words from number j on, and none of them is less than w
unfoldable pub eight_pass : List ℕ → ℕ → ℕ → Bool
eight_pass ws j w = leb (j + 8) (length ws) && leb w (least_of_eight ws j)
