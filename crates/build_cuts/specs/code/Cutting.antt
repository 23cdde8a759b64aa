-- The regions that cutting writes, by a road book and a yard book. Assumes nothing: these are definitions.
use Rattle.std.specs.Prelude.{◌≡◌, List, ℕ, ◌+◌, ◌-◌, ◌≤◌, length}
use Rattle.adjacency.specs.Adjacency.{count_in, Adjacency}
use Rattle.yard.specs.Yards.{yards_of, yard_refusal}
use Rattle.tree_layout.specs.Values.{Region}
use Rattle.check_rules.specs.Truth.{within}
use Rattle.tree_encode.specs.Encode.{encode_regions}
use Rattle.build_rules.specs.Cut.{cut, part_regions}
use Rattle.build_rules.specs.code.Facts.{count_below}
use Rattle.build_records.specs.Given.{given}
use Rattle.build_records.specs.declared.Part.{Part}
use Rattle.build_cuts.specs.declared.Plan.{Plan}

-- the regions of the range from a with s junctions, in preorder, with so many cuts left
unfoldable pub range_regions : List ℕ → List ℕ → ℕ → ℕ → ℕ → ℕ → ℕ → List Region
range_regions b yb m limit levels a s = cut (given b yb m limit) levels a s (within a (a + s) (yards_of yb))

-- those of its parts of number i and after, each cut with so many cuts left
unfoldable pub parts_from : List ℕ → List ℕ → ℕ → ℕ → ℕ → ℕ → ℕ → ℕ → List Region
parts_from b yb m limit levels a s i =
    part_regions (cut (given b yb m limit) levels) a s (within a (a + s) (yards_of yb)) (4 - i) i

-- both by a plan, a range and a road book
abbrev pub regions_of : List ℕ → Plan → ℕ → Part → List ℕ → List Region
regions_of yb plan levels p road =
    range_regions road yb plan.landmarks plan.limit levels p.start.number p.size

abbrev pub parts_of : List ℕ → Plan → ℕ → Part → ℕ → List ℕ → List Region
parts_of yb plan levels p i road =
    parts_from road yb plan.landmarks plan.limit levels p.start.number p.size i

-- a range's numbers of yards are those of its yards in the book
pub record Numbered (yb : List ℕ) (p : Part) : Type 0 where
  pub first : p.from ≡ count_below p.start.number (yards_of yb)
  pub after : p.end ≡ count_below (p.start.number + p.size) (yards_of yb)

-- a range of the junctions, with the numbers of its yards in a book that passes
pub record Range (adj yb : List ℕ) (p : Part) : Type 0 where
  pub passes : yard_refusal yb ≡ 0
  pub inside : p.start.number + p.size ≤ count_in adj
  pub numbers : Numbered yb p

-- a road book that adj is the adjacency of; the bytes of its regions in a version v book have their room
pub record Room (v : ℕ) (adj : List ℕ) (regions : List ℕ → List Region) (at room : ℕ) : Type 0 where
  pub book : List ℕ
  pub adjacent : Adjacency book adj
  pub fits : at + length (encode_regions v (regions book)) ≤ room
