-- Whether bytes that were read are a whole input, and how many an input may have. Assumes nothing: these are definitions.
use Rattle.std.specs.Prelude.{◌≡◌, ℕ, List, Option, IfSome}

-- the most bytes that an input may have: 1 MiB
abbrev pub most_input : ℕ
most_input = 1048576

-- room for one more, which is filled exactly if there are more
abbrev pub input_room : ℕ
input_room = 1048577

-- these bytes are the whole input, where its bytes are known
abbrev pub IsInput : Option (List ℕ) → List ℕ → Type 0
IsInput known bytes = IfSome known (λ input. bytes ≡ input)
