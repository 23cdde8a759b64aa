-- Values of the numbers that the reader's functions are handed. Assumes nothing: these are definitions.
use Rattle.std.specs.Prelude.{List, [], ◌∷◌, ℕ, zero, suc, Result, Ok, Err}
use Rattle.book.specs.Open.{version}
use Rattle.book.specs.Cases.{Case, accepted, refused}
use Rattle.book.specs.Refusals.{refusal_number}
use Rattle.book.specs.declared.refusal.Refusal.{Refusal}
use Rattle.tree_layout.specs.Values.{Element, Region}
use Rattle.tree_layout.specs.Decode.{junction_count, region_count, tree_yard_count, landmark_count}
use Rattle.tree_layout.specs.declared.Header.{Header}

-- the element of a distance, a yard and its kinds
abbrev pub element : (distance yard kinds : ℕ) → Element
element distance yard kinds = record { distance = distance; yard = yard; kinds = kinds }

-- what the test of a landmark looks at in its region: the range, and whether it has children
abbrev pub bounded : ℕ → ℕ → ℕ → Region
bounded first after children =
    record { first = first; after = after; children = children; yards = 0; kinds = 0; marks = [] }

-- the header of a book
unfoldable pub header_of : List ℕ → Header
header_of b = record {
  version = version b;
  junctions = junction_count b;
  regions = region_count b;
  yards = tree_yard_count b;
  landmarks = landmark_count b;
}

-- what reading a tree book's layout finds: its header, or the number of the test that turns it back
pub data TreeBook : Type 0 where
  Laid : Header → TreeBook
  Refused : ℕ → TreeBook

-- the answer for a refusal's number and a header: 0 gives the header
unfoldable pub tree_book : ℕ → Header → TreeBook
tree_book zero h = Laid h
tree_book (suc n) h = Refused (suc n)

-- a header's version and counts, in the book's order
abbrev pub header_values : Header → List ℕ
header_values h = h.version ∷ h.junctions ∷ h.regions ∷ h.yards ∷ h.landmarks ∷ []

-- each case's number and values: the header's version and counts; "A refusal returns its number, with every other
-- returned field 0"
unfoldable pub layout_case : TreeBook → Case
layout_case (Laid h) = accepted (header_values h)
layout_case (Refused why) = refused why 5

-- what the code answers, in the paper's numbers
abbrev pub layout_answer : Result Header Refusal → TreeBook
layout_answer (Ok h) = Laid h
layout_answer (Err why) = Refused (refusal_number why)
