-- LB and UB by the rows of the landmark table. Assumes nothing: these are definitions.
use Rattle.std.specs.Prelude.{◌≡◌, List, ℕ, zero, suc, ◌+◌, ◌≤◌, min, max, length, eqb}
use Rattle.book.specs.Choose.{choose}
use Rattle.road.specs.code.Rows.{cell}
use Rattle.search_rules.specs.Bounds.{abs_diff}

-- "LB(l, q) is the greatest difference .. of sheet values at l and q": of the first rows
unfoldable pub rows_lower : List ℕ → ℕ → ℕ → ℕ → ℕ
rows_lower table zero l q = 0
rows_lower table (suc r) l q = max (rows_lower table r l q) (abs_diff (cell table r l) (cell table r q))

-- "UB(l, q) the least sum, of sheet values at l and q": of the first rows, at least one
unfoldable pub rows_upper : List ℕ → ℕ → ℕ → ℕ → ℕ
rows_upper table zero l q = 0
rows_upper table (suc r) l q = let s = cell table r l + cell table r q in
    choose (eqb r 0) s (min (rows_upper table r l q) s)

-- the words of a landmark table: four rows of 1,024
abbrev pub table_words : ℕ
table_words = 4096

-- a landmark table has four rows, of which from one to all are filled
pub record Rows (table : List ℕ) (rows : ℕ) : Type 0 where
  pub room : length table ≡ table_words
  pub some : 1 ≤ rows
  pub few : rows ≤ 4
