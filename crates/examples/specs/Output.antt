-- An example's line, as bytes. Assumes nothing: these are definitions.
use Rattle.std.specs.Prelude.{List, [], ◌∷◌, ◌++◌, ℕ, eqb}
use Rattle.book.specs.Choose.{choose}
use Rattle.text.specs.Text.{decimal, refused_text}

-- `accepted` and a line end
abbrev pub accepted_text : List ℕ
accepted_text = 97 ∷ 99 ∷ 99 ∷ 101 ∷ 112 ∷ 116 ∷ 101 ∷ 100 ∷ 10 ∷ []

-- a name, the number that was tried, some words, and the number of the refusal, 0 for none
unfoldable pub example_line : (name : List ℕ) (tried : ℕ) (then : List ℕ) (why : ℕ) → List ℕ
example_line name tried then why =
    name ++ (decimal tried ++ then) ++ choose (eqb why 0) accepted_text (refused_text why)
