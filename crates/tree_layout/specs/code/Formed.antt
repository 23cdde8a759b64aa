-- What the layout fixes of a decoded tree: landmarks, lists and spans have their numbers and forms, and "Version 1
-- books are read with kind 255 throughout". Assumes nothing: these are statements.
use Rattle.std.specs.Prelude.{◌≡◌, ℕ, ◌<◌, length}
use mathlib.Core.List.{Memᴰ as Mem}
use Rattle.tree_layout.specs.Values.{Element, Mark, Region, Tree, leaf_mark, inner_mark}

-- of a version: a region's landmarks are m; a leaf's have lists of its yards' number, an inner region's have none
pub record Formed (version m : ℕ) (r : Region) : Type 0 where
  pub count : length r.marks ≡ m
  pub lists : r.children ≡ 0 → (k : Mark) → Mem k r.marks
      → (k ≡ leaf_mark k.place k.list) × (length k.list ≡ r.yards)
  pub spans : 0 < r.children → (k : Mark) → Mem k r.marks → k ≡ inner_mark k.place k.least k.greatest
  pub any : version ≡ 1 → r.kinds ≡ 255
  pub any-listed : version ≡ 1 → (k : Mark) → Mem k r.marks → (e : Element) → Mem e k.list → e.kinds ≡ 255

-- every region of the tree is so formed
abbrev pub FormedTree : Tree → Type 0
FormedTree t = (r : Region) → Mem r t.regions → Formed t.version t.landmarks r
