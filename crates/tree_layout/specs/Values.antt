-- A tree's values, as read from a tree book. Assumes nothing: these are definitions.
use Rattle.std.specs.Prelude.{List, [], ◌∷◌, ℕ, get_or}

-- an element of a leaf's list: "one pair (distance u32, yard u16) per yard"; "a yard's kind byte after each of its list
-- entries"
pub record Element : Type 0 where
  pub distance : ℕ
  pub yard : ℕ
  pub kinds : ℕ

-- a landmark of a region: its junction, the least and the greatest distance to the region's yards ("in a leaf, its
-- list's first and last"), and a leaf's list
pub record Mark : Type 0 where
  pub place : ℕ
  pub least : ℕ
  pub greatest : ℕ
  pub list : List Element

-- "A region: first junction u16, junction after the last u16, children u8 .., yards u16 ..; then per landmark .."; "a
-- region's byte after its yard count"
pub record Region : Type 0 where
  pub first : ℕ
  pub after : ℕ
  pub children : ℕ
  pub yards : ℕ
  pub kinds : ℕ
  pub marks : List Mark

-- "Tree book: junctions u16 .., regions u16 .., yards u16 .., landmarks per region m u8 ..; then regions in preorder.",
-- of a version
pub record Tree : Type 0 where
  pub version : ℕ
  pub junctions : ℕ
  pub yards : ℕ
  pub landmarks : ℕ
  pub regions : List Region

-- the distance of a list's first element
unfoldable pub first_distance : List Element → ℕ
first_distance [] = 0
first_distance (e ∷ es) = e.distance

-- the distance of a list's last element, or x if it has none
unfoldable pub last_from : ℕ → List Element → ℕ
last_from x [] = x
last_from x (e ∷ es) = last_from e.distance es

-- a leaf's landmark: "in a leaf, its list's first and last" are the least and the greatest
unfoldable pub leaf_mark : ℕ → List Element → Mark
leaf_mark place list = record { place = place; least = first_distance list; greatest = last_from 0 list; list = list }

-- an inner region's landmark: "least and greatest distance to its yards"
unfoldable pub inner_mark : ℕ → ℕ → ℕ → Mark
inner_mark place least greatest = record { place = place; least = least; greatest = greatest; list = [] }

-- what stands for the landmark of a region that has none
unfoldable pub no_mark : Mark
no_mark = record { place = 0; least = 0; greatest = 0; list = [] }

-- what stands for a region of no number
unfoldable pub no_region : Region
no_region = record { first = 0; after = 0; children = 0; yards = 0; kinds = 0; marks = [] }

-- region number i: "A *region* is a node of the tree, numbered from 0 in preorder."
unfoldable pub region_at : List Region → ℕ → Region
region_at rs i = get_or rs i no_region
