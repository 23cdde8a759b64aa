-- How the within program takes its input apart: decimal seconds and a line end, then the books. Assumes nothing: these
-- are definitions.
use Rattle.std.specs.Prelude.{Bool, true, ◌&&◌, List, [], ◌∷◌, ℕ, ◌+◌, ◌*◌, ◌-◌, length, take, drop, eqb, leb, ltb}
use Rattle.std.proofs.Math.Option.{Option, none, some}
use Rattle.book.specs.Choose.{choose}

-- how many bytes stand before the first line end, which is byte 10: all of them if there is none
unfoldable pub line_length : List ℕ → ℕ
line_length [] = 0
line_length (b ∷ s) = choose (eqb b 10) 0 (1 + line_length s)

-- the characters `0` to `9` have the codes 48 to 57
abbrev pub is_digit : ℕ → Bool
is_digit b = leb 48 b && leb b 57

unfoldable pub all_digits : List ℕ → Bool
all_digits [] = true
all_digits (b ∷ s) = is_digit b && all_digits s

-- the value of digits, the most significant first, after others whose value is n
unfoldable pub value_after : (n : ℕ) → List ℕ → ℕ
value_after n [] = n
value_after n (b ∷ s) = value_after (10 * n + (b - 48)) s

-- the value of digits
abbrev pub value_of : List ℕ → ℕ
value_of s = value_after 0 s

-- "a decimal number below 4,294,967,296": one or more digits, and nothing else
unfoldable pub is_number : List ℕ → Bool
is_number s = leb 1 (length s) && (all_digits s && ltb (value_of s) 4294967296)

-- the number that some bytes are, if they are one
unfoldable pub number_of : List ℕ → Option ℕ
number_of s = choose (is_number s) (some (value_of s)) none

-- the seconds: the number before the first line end, if there is a line end and a number before it
unfoldable pub seconds_in : List ℕ → Option ℕ
seconds_in s = choose (ltb (line_length s) (length s)) (number_of (take (line_length s) s)) none

-- the books: all after the first line end
unfoldable pub books_in : List ℕ → List ℕ
books_in s = drop (line_length s + 1) s
