-- Lines read as seconds, by running the definitions. Assumes nothing.
use mathlib.Core.Path.{◌≡◌, refl}
use mathlib.Core.Option.{Option, none, some}
use mathlib.Core.List.{List, [], ◌∷◌}
use Prim.Native.Nat.{ℕ}
use Rattle.book.specs.Choose.{choose}
use Rattle.within.specs.Input.{line_length, all_digits, value_after, is_number, number_of, seconds_in, books_in}

-- an input's seconds and books
Apart : (input : List ℕ) → (seconds : Option ℕ) → (books : List ℕ) → Type 0
Apart input seconds books = (seconds_in input ≡ seconds) × (books_in input ≡ books)

-- `12`, and two bytes after the line end, of which one is a line end too
given : Apart (49 ∷ 50 ∷ 10 ∷ 10 ∷ 7 ∷ []) (some 12) (10 ∷ 7 ∷ [])
unfolding Apart line_length all_digits value_after is_number number_of seconds_in books_in choose
given = (refl, refl)

-- `0007`
leading_zeros : Apart (48 ∷ 48 ∷ 48 ∷ 55 ∷ 10 ∷ []) (some 7) []
unfolding Apart line_length all_digits value_after is_number number_of seconds_in books_in choose
leading_zeros = (refl, refl)

-- `4294967295` and `4294967296`
greatest : number_of (52 ∷ 50 ∷ 57 ∷ 52 ∷ 57 ∷ 54 ∷ 55 ∷ 50 ∷ 57 ∷ 53 ∷ []) ≡ some 4294967295
unfolding all_digits value_after is_number number_of choose
greatest = refl

one-above : number_of (52 ∷ 50 ∷ 57 ∷ 52 ∷ 57 ∷ 54 ∷ 55 ∷ 50 ∷ 57 ∷ 54 ∷ []) ≡ none
unfolding all_digits value_after is_number number_of choose
one-above = refl

-- an empty line, `1 `, `-1`, `/` and `:`, which stand beside the digits, and `12` with no line end
empty_line : seconds_in (10 ∷ 49 ∷ 10 ∷ []) ≡ none
unfolding line_length all_digits value_after is_number number_of seconds_in choose
empty_line = refl

space-after : number_of (49 ∷ 32 ∷ []) ≡ none
unfolding all_digits value_after is_number number_of choose
space-after = refl

sign : number_of (45 ∷ 49 ∷ []) ≡ none
unfolding all_digits value_after is_number number_of choose
sign = refl

below_digits : number_of (47 ∷ []) ≡ none
unfolding all_digits value_after is_number number_of choose
below_digits = refl

above_digits : number_of (58 ∷ []) ≡ none
unfolding all_digits value_after is_number number_of choose
above_digits = refl

no_line_end : seconds_in (49 ∷ 50 ∷ []) ≡ none
unfolding line_length all_digits value_after is_number number_of seconds_in choose
no_line_end = refl

nothing : seconds_in [] ≡ none
unfolding line_length all_digits value_after is_number number_of seconds_in choose
nothing = refl
