-- What a search that the input asks for prints, as bytes. Assumes nothing: these are definitions.
use Rattle.std.proofs.Math.Option.{Option}
use Rattle.std.specs.Prelude.{List, [], ◌∷◌, ◌++◌, ℕ, ◌+◌, ◌*◌, length, get_or, eqb}
use Rattle.book.specs.Choose.{choose}
use Rattle.text.specs.Text.{decimal, space, line_end, in_turn, refused_text}
use Rattle.search_call.specs.Call.{Found}
use Rattle.listing.specs.Input.{found_in, results_in}

-- `yard seconds` and a line end
abbrev pub heading : List ℕ
heading = 121 ∷ 97 ∷ 114 ∷ 100 ∷ 32 ∷ 115 ∷ 101 ∷ 99 ∷ 111 ∷ 110 ∷ 100 ∷ 115 ∷ 10 ∷ []

-- `spent `, `measured ` and ` taken `
abbrev pub word_spent : List ℕ
word_spent = 115 ∷ 112 ∷ 101 ∷ 110 ∷ 116 ∷ 32 ∷ []

abbrev pub word_measured : List ℕ
word_measured = 109 ∷ 101 ∷ 97 ∷ 115 ∷ 117 ∷ 114 ∷ 101 ∷ 100 ∷ 32 ∷ []

abbrev pub word_taken : List ℕ
word_taken = 32 ∷ 116 ∷ 97 ∷ 107 ∷ 101 ∷ 110 ∷ 32 ∷ []

-- "yard and aggregate seconds": a listed yard's line
unfoldable pub yard_line : (yard seconds : ℕ) → List ℕ
yard_line yard seconds = (decimal yard ++ space) ++ (decimal seconds ++ line_end)

-- "counts last": `measured 2 taken 4`
unfoldable pub counts_line : (measured taken : ℕ) → List ℕ
counts_line measured taken = word_measured ++ ((decimal measured ++ word_taken) ++ (decimal taken ++ line_end))

-- the line of the yard that is listed as number i, by a result area's words
abbrev pub listed_line : List ℕ → ℕ → List ℕ
listed_line results i = yard_line (get_or results (2 * i) 0) (get_or results (2 * i + 1) 0)

-- "Spent prints `spent measured 1 taken 3`"
unfoldable pub spent_text : Found → List ℕ
spent_text f = word_spent ++ counts_line f.measured f.taken

-- the heading, a line for each listed yard, and the counts
unfoldable pub settled_text : Found → List ℕ → List ℕ
settled_text f results =
    (heading ++ in_turn (listed_line results) f.listed) ++ counts_line f.measured f.taken

-- what a search's answer and the result area after it lead to
unfoldable pub answer_text : Found → List ℕ → List ℕ
answer_text f results =
    choose (eqb f.refusal 0) (choose (eqb f.settled 0) (spent_text f) (settled_text f results))
    (refused_text f.refusal)

-- what a search by the books of some bytes prints, for k yards or within so many seconds, with such result words
unfoldable pub books_text : List ℕ → (drive : Option ℕ) → (results : List ℕ) → List ℕ
books_text s drive results = answer_text (found_in s drive (length results)) (results_in s drive results)
