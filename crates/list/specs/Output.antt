-- What the list program prints, as bytes. Assumes nothing: these are definitions.
use Rattle.std.proofs.Math.Option.{none}
use Rattle.std.specs.Prelude.{List, ℕ, replicate}
use Rattle.listing.specs.Output.{books_text}

-- the result area is 128 words, two for each of 64 yards
abbrev pub result_words : ℕ
result_words = 128

-- "it prints all of this": what the program prints for its input, a search for k yards
unfoldable pub list_text : List ℕ → List ℕ
list_text input = books_text input none (replicate result_words 0)
