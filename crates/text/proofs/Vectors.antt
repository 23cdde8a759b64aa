-- Numbers in decimal, by running the definition. Assumes nothing.
use mathlib.Core.Path.{◌≡◌, refl}
use mathlib.Core.List.{[], ◌∷◌}
use Rattle.book.specs.Choose.{choose}
use Rattle.text.specs.Text.{decimal_within, decimal}

-- `0`, `9`, `10` and `305`
none : decimal 0 ≡ 48 ∷ []
unfolding decimal decimal_within choose
none = refl

one-digit : decimal 9 ≡ 57 ∷ []
unfolding decimal decimal_within choose
one-digit = refl

two_digits : decimal 10 ≡ 49 ∷ 48 ∷ []
unfolding decimal decimal_within choose
two_digits = refl

three_digits : decimal 305 ≡ 51 ∷ 48 ∷ 53 ∷ []
unfolding decimal decimal_within choose
three_digits = refl
