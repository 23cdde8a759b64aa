-- What reading a tree book answers, and what it leaves in the arrays. Assumes nothing: these are definitions.
use Rattle.std.specs.Prelude.{List, ℕ, zero, suc, eqb, Result, Ok, Err}
use Rattle.book.specs.Choose.{choose}
use Rattle.book.specs.Cases.{Case, accepted, refused}
use Rattle.book.specs.Refusals.{refusal_number}
use Rattle.book.specs.declared.refusal.Refusal.{Refusal}
use Rattle.tree_layout.specs.Decode.{region_count, place_of, decode}
use Rattle.tree_layout.specs.Refusal.{tree_layout_refusal}
use Rattle.tree_layout.specs.Reading.{header_of, header_values}
use Rattle.tree_layout.specs.declared.Header.{Header}
use Rattle.tree.specs.Shape.{tree_refusal}
use Rattle.tree.specs.Yards.{end_of}
use Rattle.tree.specs.Arrays.{overwrite}

-- what reading a tree book finds: its header, or the number of the test that turns it back
pub data Tree : Type 0 where
  Shaped : Header → Tree
  Refused : ℕ → Tree

-- the answer for a refusal's number and a header: 0 gives the header
unfoldable pub tree_answer : ℕ → Header → Tree
tree_answer zero h = Shaped h
tree_answer (suc n) h = Refused (suc n)

-- each case's number and values: the header's version and counts; "A refusal returns its number, with every other
-- returned field 0"
unfoldable pub tree_case : Tree → Case
tree_case (Shaped h) = accepted (header_values h)
tree_case (Refused why) = refused why 5

-- what the code answers, in the paper's numbers
abbrev pub shape_answer : Result Header Refusal → Tree
shape_answer (Ok h) = Shaped h
shape_answer (Err why) = Refused (refusal_number why)

-- a book's answer
unfoldable pub tree_of : List ℕ → Tree
tree_of b = tree_answer (tree_refusal b) (header_of b)

-- the places: of each region's record, if tests 1 to 5 accept the book; else as they were
unfoldable pub places_after : List ℕ → List ℕ → List ℕ
places_after b places = choose (eqb (tree_layout_refusal b) 0) (overwrite (place_of b) (region_count b) places) places

-- the ends: of each region's subtree, if the book is accepted; else as they were
unfoldable pub ends_after : List ℕ → List ℕ → List ℕ
ends_after b ends = choose (eqb (tree_refusal b) 0) (overwrite (end_of (decode b).regions) (region_count b) ends) ends
