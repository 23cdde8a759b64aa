-- A refusal in the paper's numbers, and the number of an answer that may be one. Assumes nothing: these are definitions.
use Rattle.std.specs.Prelude.{ℕ, Result, Ok, Err}
use Rattle.book.specs.declared.refusal.Refusal.{Refusal}
use Rattle.book.specs.declared.refusal.Refusal.TheVariants.{Length, Version, Header, Records, Value, Unreached, Shape, Disagree, Distance, Crews, Number, Area, Wanted}

-- "Turned back, in this order": each test's number
abbrev pub refusal_number : Refusal → ℕ
refusal_number Length = 1
refusal_number Version = 2
refusal_number Header = 3
refusal_number Records = 4
refusal_number Value = 5
refusal_number Unreached = 6
refusal_number Shape = 7
refusal_number Disagree = 8
refusal_number Distance = 9
refusal_number Crews = 10
refusal_number Number = 11
refusal_number Area = 12
refusal_number Wanted = 13

-- the number of an answer: "The number of an accepted call is 0."
abbrev pub answer_number : {A : Type 0} → Result A Refusal → ℕ
answer_number (Ok x) = 0
answer_number (Err why) = refusal_number why
