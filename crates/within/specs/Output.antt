-- What the within program prints, as bytes. Assumes nothing: these are definitions.
use Rattle.std.proofs.Math.Option.{Option, none, some}
use Rattle.std.specs.Prelude.{List, ℕ, replicate}
use Rattle.text.specs.Text.{refused_text}
use Rattle.listing.specs.Output.{books_text}
use Rattle.within.specs.Input.{seconds_in, books_in}

-- the result area is 512 words, two for each of 256 yards
abbrev pub result_words : ℕ
result_words = 512

-- what is printed for some seconds and books: "Anything before the newline that is not a decimal number below
-- 4,294,967,296 prints `refused 1`."
unfoldable pub text_by : (seconds : Option ℕ) → (books : List ℕ) → List ℕ
text_by none books = refused_text 1
text_by (some seconds) books = books_text books (some seconds) (replicate result_words 0)

-- what the program prints for its input
unfoldable pub within_text : List ℕ → List ℕ
within_text input = text_by (seconds_in input) (books_in input)
