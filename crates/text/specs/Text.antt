-- Text as bytes: numbers in decimal, a line for each of several things, and bytes appended in an array. Assumes
-- nothing: these are definitions.
use Rattle.std.specs.Prelude.{◌≡◌, List, [], ◌∷◌, ◌++◌, ℕ, zero, suc, ◌+◌, ◌/◌, ◌%◌, length, take, ltb}
use Rattle.book.specs.Choose.{choose}

-- the character of a number below 10: `0` has code 48
abbrev pub digit : ℕ → List ℕ
digit d = (48 + d) ∷ []

-- a number in decimal, the most significant digit first, if it has at most so many digits
unfoldable pub decimal_within : (most n : ℕ) → List ℕ
decimal_within zero n = []
decimal_within (suc most) n = choose (ltb n 10) (digit n) (decimal_within most (n / 10) ++ digit (n % 10))

-- a number in decimal: no number n has more than n + 1 digits
unfoldable pub decimal : ℕ → List ℕ
decimal n = decimal_within (suc n) n

abbrev pub space : List ℕ
space = 32 ∷ []

abbrev pub line_end : List ℕ
line_end = 10 ∷ []

-- `refused `
abbrev pub word_refused : List ℕ
word_refused = 114 ∷ 101 ∷ 102 ∷ 117 ∷ 115 ∷ 101 ∷ 100 ∷ 32 ∷ []

-- "a refusal prints `refused` and its number"
unfoldable pub refused_text : ℕ → List ℕ
refused_text why = word_refused ++ (decimal why ++ line_end)

-- the texts of things number 0 to n - 1, one after the other
unfoldable pub in_turn : (ℕ → List ℕ) → ℕ → List ℕ
in_turn text zero = []
in_turn text (suc n) = in_turn text n ++ text n

-- Bytes were appended to the first `at` of an array: it holds those, then the added bytes, up to `end`.
pub record Appended (old : List ℕ) (at : ℕ) (added : List ℕ) (new : List ℕ) (end : ℕ) : Type 0 where
  pub after : end ≡ at + length added
  pub held : take end new ≡ take at old ++ added
