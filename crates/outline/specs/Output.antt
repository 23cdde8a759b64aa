-- What the outline program prints, as bytes. Assumes nothing: these are definitions.
use Rattle.std.specs.Prelude.{List, [], ◌∷◌, ◌++◌, ℕ, eqb}
use Rattle.book.specs.Choose.{choose}
use Rattle.book.specs.Open.{version}
use Rattle.text.specs.Text.{decimal, space, line_end, in_turn, refused_text}
use Rattle.tree_layout.specs.Decode.{region_count, decode}
use Rattle.tree_layout.specs.Reading.{header_of}
use Rattle.tree_layout.specs.declared.Header.{Header}
use Rattle.tree_layout.specs.declared.Fields.{Fields}
use Rattle.tree.specs.Shape.{tree_refusal}
use Rattle.tree.specs.Yards.{level_of}
use Rattle.tree.specs.Arrays.{fields_of}

-- `junctions `
abbrev pub word_junctions : List ℕ
word_junctions = 106 ∷ 117 ∷ 110 ∷ 99 ∷ 116 ∷ 105 ∷ 111 ∷ 110 ∷ 115 ∷ 32 ∷ []

-- ` regions `
abbrev pub word_regions : List ℕ
word_regions = 32 ∷ 114 ∷ 101 ∷ 103 ∷ 105 ∷ 111 ∷ 110 ∷ 115 ∷ 32 ∷ []

-- ` yards `
abbrev pub word_yards : List ℕ
word_yards = 32 ∷ 121 ∷ 97 ∷ 114 ∷ 100 ∷ 115 ∷ 32 ∷ []

-- ` landmarks `
abbrev pub word_landmarks : List ℕ
word_landmarks = 32 ∷ 108 ∷ 97 ∷ 110 ∷ 100 ∷ 109 ∷ 97 ∷ 114 ∷ 107 ∷ 115 ∷ 32 ∷ []

-- `level first after children yards` and a line end
abbrev pub columns : List ℕ
columns =
    108 ∷ 101 ∷ 118 ∷ 101 ∷ 108 ∷ 32 ∷ 102 ∷ 105 ∷ 114 ∷ 115 ∷ 116 ∷ 32 ∷ 97 ∷ 102 ∷ 116 ∷ 101 ∷ 114 ∷ 32 ∷ 99 ∷ 104
    ∷ 105 ∷ 108 ∷ 100 ∷ 114 ∷ 101 ∷ 110 ∷ 32 ∷ 121 ∷ 97 ∷ 114 ∷ 100 ∷ 115 ∷ 10 ∷ []

-- the same with `kinds` as the last
abbrev pub columns_kinds : List ℕ
columns_kinds =
    108 ∷ 101 ∷ 118 ∷ 101 ∷ 108 ∷ 32 ∷ 102 ∷ 105 ∷ 114 ∷ 115 ∷ 116 ∷ 32 ∷ 97 ∷ 102 ∷ 116 ∷ 101 ∷ 114 ∷ 32 ∷ 99 ∷ 104
    ∷ 105 ∷ 108 ∷ 100 ∷ 114 ∷ 101 ∷ 110 ∷ 32 ∷ 121 ∷ 97 ∷ 114 ∷ 100 ∷ 115 ∷ 32 ∷ 107 ∷ 105 ∷ 110 ∷ 100 ∷ 115 ∷ 10 ∷ []

-- the names of the columns: a version 2 tree's regions have kinds
unfoldable pub columns_of : (version : ℕ) → List ℕ
columns_of version = choose (eqb version 1) columns columns_kinds

-- the header's numbers, and the names of the columns
unfoldable pub header_text : Header → List ℕ
header_text h =
    word_junctions ++ (decimal h.junctions ++ word_regions) ++ (decimal h.regions ++ word_yards)
    ++ (decimal h.yards ++ word_landmarks) ++ (decimal h.landmarks ++ line_end) ++ columns_of h.version

-- the end of a region's line: its yards, and in version 2 its kinds
unfoldable pub line_end_of : (version yards kinds : ℕ) → List ℕ
line_end_of version yards kinds =
    choose (eqb version 1) (decimal yards ++ line_end) ((decimal yards ++ space) ++ (decimal kinds ++ line_end))

-- a region's line: its level and its fields
unfoldable pub line_of : (version level : ℕ) → Fields → List ℕ
line_of version level f =
    (decimal level ++ space) ++ (decimal f.first.number ++ space) ++ (decimal f.after ++ space)
    ++ (decimal f.children ++ space) ++ line_end_of version f.yards f.kinds

-- the line of a book's region number i; the root's level is 1
unfoldable pub region_text : List ℕ → ℕ → List ℕ
region_text b i = line_of (version b) (level_of (decode b).regions i) (fields_of b i)

-- what the program prints for a tree book
unfoldable pub outline_text : List ℕ → List ℕ
outline_text b =
    choose (eqb (tree_refusal b) 0) (header_text (header_of b) ++ in_turn (region_text b) (region_count b))
    (refused_text (tree_refusal b))
