-- The bytes of a tree book's parts, by its version. Assumes nothing: these are definitions.
use Rattle.std.specs.Prelude.{ℕ, ◌+◌, ◌*◌}
use Rattle.kinds.specs.Kinds.{kind_size}

-- the latest version of a tree book
abbrev pub latest_tree : ℕ
latest_tree = 2

-- the count, the version, and the header's counts: the first region's record stands after them
abbrev pub header_size : ℕ
header_size = 12

-- a region's fields before its landmarks: first junction, junction after the last, children, yards, kinds
unfoldable pub fields_size : ℕ → ℕ
fields_size version = 7 + kind_size version

-- a landmark's junction
abbrev pub junction_size : ℕ
junction_size = 2

-- an element of a leaf's list: "distance u32, yard u16", kinds
unfoldable pub element_size : ℕ → ℕ
element_size version = 6 + kind_size version

-- n elements of a leaf's list
unfoldable pub list_size : (version n : ℕ) → ℕ
list_size version n = n * element_size version

-- a landmark of a leaf with so many yards
unfoldable pub leaf_mark_size : (version yards : ℕ) → ℕ
leaf_mark_size version yards = junction_size + list_size version yards

-- a landmark of an inner region: its junction, least and greatest
abbrev pub inner_mark_size : ℕ
inner_mark_size = 10
