-- A reader's answer in the paper's numbers: "Where an answer is an enum, a definition lists this paper's number and
-- values for each case." Assumes nothing: these are definitions.
use Rattle.std.specs.Prelude.{List, ℕ, zero, suc, length, replicate}

-- a case of an answer: its number, and the values that are returned with it
pub record Case : Type 0 where
  pub number : ℕ
  pub values : List ℕ

-- "The number of an accepted call is 0."
abbrev pub accepted : List ℕ → Case
accepted values = record { number = 0; values = values }

-- "A refusal returns its number, with every other returned field 0": of so many other fields
abbrev pub refused : ℕ → ℕ → Case
refused why fields = record { number = why; values = replicate fields 0 }

-- the case for a refusal's number, beside the values of a book that is accepted
abbrev pub case_of : ℕ → List ℕ → Case
case_of zero values = accepted values
case_of (suc n) values = refused (suc n) (length values)
