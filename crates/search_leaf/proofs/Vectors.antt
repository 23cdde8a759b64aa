-- Worked examples: the definitions run. Assumes nothing.
use mathlib.Core.Path.{◌≡◌, refl}
use mathlib.Core.Bool.{true, false}
use mathlib.Core.List.{List, [], ◌∷◌, ◌++◌}
use Prim.Native.Nat.{ℕ, ◌+◌}
use lib.ListN.{replicate}
use Rattle.book.specs.Choose.{choose}
use Rattle.kinds.specs.Kinds.{shares}
use Rattle.tree_layout.specs.Values.{Element}
use Rattle.search_rules.specs.Queue.{word_at, pick}
use Rattle.search_rules.specs.Step.{left}
use Rattle.search_leaf.specs.code.Leaves.{by_yard, by_yards, pass_over, f_word, element_word, words_of}

pair : ℕ → ℕ → Element
pair distance yard = record { distance = distance; yard = yard; kinds = yard + 1 }

three : List Element
three = pair 2 1 ∷ pair 9 3 ∷ pair 10 0 ∷ []

-- each word stands at its yard, and the others stay
at-yards : by_yard (λ e. e.distance) three (7 ∷ 7 ∷ 7 ∷ 7 ∷ []) ≡ 10 ∷ 2 ∷ 7 ∷ 9 ∷ []
unfolding by_yard three pair
at-yards = refl

-- the f's stand at their yards, and the bounds 1,024 places further
at_both : by_yards (λ e. e.distance) (λ e. e.distance + 1) (pair 2 1 ∷ pair 9 0 ∷ []) (replicate 1026 7)
    ≡ 9 ∷ 2 ∷ replicate 1022 7 ++ 10 ∷ 3 ∷ []
unfolding by_yards pair
at_both = refl

-- of two that tie the first leaves; a yard that has left has no word
ties : pick (words_of (4 ∷ 6 ∷ 0 ∷ 4 ∷ []) (false ∷ false ∷ false ∷ false ∷ []) three) 3 ≡ 1
unfolding pick word_at words_of element_word f_word left choose three pair
ties = refl

gone : pick (words_of (4 ∷ 6 ∷ 0 ∷ 4 ∷ []) (false ∷ false ∷ false ∷ true ∷ []) three) 3 ≡ 2
unfolding pick word_at words_of element_word f_word left choose three pair
gone = refl

-- of yards 1, 3 and 0, whose kinds are 2, 4 and 1, those without a bit of 6 are marked, and have no word
passed : pass_over 6 three (4 ∷ 6 ∷ 0 ∷ 4 ∷ []) ≡ 4294967295 ∷ 6 ∷ 0 ∷ 4 ∷ []
unfolding pass_over shares choose three pair
passed = refl

unwanted : words_of (pass_over 2 three (4 ∷ 6 ∷ 0 ∷ 4 ∷ [])) (false ∷ false ∷ false ∷ false ∷ []) three
    ≡ 6 ∷ 18446744073709551615 ∷ 18446744073709551615 ∷ []
unfolding words_of element_word f_word left pass_over shares choose three pair
unwanted = refl
