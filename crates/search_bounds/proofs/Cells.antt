-- LB and UB, one row further. Assumes nothing.
use mathlib.Core.Path.{◌≡◌, refl, sym, ◌∙◌}
use mathlib.Core.List.{List}
use Prim.Native.Nat.{ℕ, suc, ◌+◌, ◌≤◌, ◌<◌, min, max}
use native.Mathlib.Numerals.{add-one}
use native.Mathlib.Omega.{arith}
use lib.Dec.{eqb}
use Rattle.book.proofs.Choosing.{choose_yes, choose_no}
use Rattle.book.proofs.Lists.{ne→neqb}
use Rattle.road.specs.code.Rows.{cell}
use Rattle.search_rules.specs.Bounds.{abs_diff}
use Rattle.search_rules.proofs.Bounds.{abs_diff_both}
use Rattle.search_bounds.specs.code.Rows.{rows_lower, rows_upper}
use Rattle.std.specs.Int as std

module _ (table : List ℕ) (l q : ℕ) where
  pub lower-none : rows_lower table 0 l q ≡ 0
  unfolding rows_lower
  lower-none = refl

  pub lower-suc : (r : ℕ) → rows_lower table (suc r) l q ≡ max (rows_lower table r l q) (abs_diff (cell table r l) (cell table r q))
  unfolding rows_lower
  lower-suc r = refl

  -- a turn: x with row r's difference
  pub lower-turn : (r x d y : ℕ) → x ≡ rows_lower table r l q → d ≡ abs_diff (cell table r l) (cell table r q) → y ≡ max x d
      → y ≡ rows_lower table (r + 1) l q
  lower-turn r x d y e f g = g ∙ rw (e, f, add-one r) (sym (lower-suc r))

  pub upper-one : rows_upper table 1 l q ≡ cell table 0 l + cell table 0 q
  unfolding rows_upper
  upper-one = choose_yes (eqb 0 0) _ _ tt

  pub upper-suc : (r : ℕ) → 0 < r → rows_upper table (suc r) l q ≡ min (rows_upper table r l q) (cell table r l + cell table r q)
  unfolding rows_upper
  upper-suc r h = choose_no (eqb r 0) _ _ (ne→neqb r 0 (omega arith))

  -- a turn: x with row r's sum
  pub upper-turn : (r x s y : ℕ) → 0 < r → x ≡ rows_upper table r l q → s ≡ cell table r l + cell table r q → y ≡ min x s
      → y ≡ rows_upper table (r + 1) l q
  upper-turn r x s y h e f g = g ∙ rw (e, f, add-one r) (sym (upper-suc r h))

  -- all rows are done
  pub lower-end : (rows r x : ℕ) → r ≤ rows → rows ≤ r → x ≡ rows_lower table r l q → x ≡ rows_lower table rows l q
  lower-end rows r x h k e = let z : r ≡ rows = omega arith in rw (← z) e

  pub upper-end : (rows r x : ℕ) → r ≤ rows → rows ≤ r → x ≡ rows_upper table r l q → x ≡ rows_upper table rows l q
  upper-end rows r x h k e = let z : r ≡ rows = omega arith in rw (← z) e

-- the difference, as the library computes it
pub abs_diff_is : (a b : ℕ) → std.abs_diff a b ≡ abs_diff a b
abs_diff_is a b = sym (abs_diff_both a b)

-- of two words that are read
pub abs_diff_read : (a b x y r : ℕ) → x ≡ a → y ≡ b → r ≡ std.abs_diff x y → r ≡ abs_diff a b
abs_diff_read a b x y r e f g = g ∙ rw (e, f) (abs_diff_is a b)
