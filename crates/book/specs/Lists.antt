-- Lists in which nothing stands twice, and what of a list passes a test. Assumes nothing: these are definitions.
use Rattle.std.specs.Prelude.{Bool}
use mathlib.Core.List.{List, [], ◌∷◌, Memᴰ as Mem}
use Rattle.book.specs.Choose.{choose}

-- each member once
abbrev pub Distinct : {A : Type 0} → List A → Type 0
Distinct [] = Unit {0}
Distinct (x ∷ xs) = (Mem x xs → ⊥) × Distinct xs

-- the members of a list that pass a test, in its order
unfoldable pub keep_if : {A : Type 0} → (A → Bool) → List A → List A
keep_if p [] = []
keep_if p (x ∷ xs) = let rest = keep_if p xs in choose (p x) (x ∷ rest) rest
