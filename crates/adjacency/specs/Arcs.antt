-- A road book's arcs: each road, one way and back. Assumes nothing: these are definitions.
use Rattle.std.specs.Prelude.{List, [], ◌∷◌, ℕ}
use Rattle.road_layout.specs.Road.{Road, roads}

-- A road in one direction (an arc).
pub record Arc : Type 0 where
  pub from : ℕ
  pub to : ℕ
  pub seconds : ℕ

-- the arc along a road as it is written, and the arc back
unfoldable pub along : Road → Arc
along r = record { from = r.low; to = r.high; seconds = r.seconds }

unfoldable pub back : Arc → Arc
back a = record { from = a.to; to = a.from; seconds = a.seconds }

-- "A road runs both ways": each road gives an arc each way
unfoldable pub arcs : List Road → List Arc
arcs [] = []
arcs (r ∷ rs) = back (along r) ∷ along r ∷ arcs rs

-- a road book's arcs
unfoldable pub net : List ℕ → List Arc
net b = arcs (roads b)
