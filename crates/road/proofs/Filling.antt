-- Rows that are filled, one source after the other. Assumes nothing.
use mathlib.Core.Path.{◌≡◌, refl, ◌∙◌}
use mathlib.Core.List.{List, ◌++◌}
use Prim.Native.Nat.{ℕ, ◌+◌, ◌-◌, ◌*◌, ◌≤◌, ◌<◌}
use native.Mathlib.Decide.{ℕ_discrete}
use native.Mathlib.Omega.{arith}
use lib.ListN.{length, get_or, take, drop, length-append, length-take, length-drop, get_or-append}
use lib.Seq.{get_or-append-add, get_or-take, length-take-le}
use Rattle.road_layout.specs.Road.{junctions}
use Rattle.adjacency.specs.Arcs.{net}
use Rattle.road.specs.Dijkstra.{distances, dist}
use Rattle.road.specs.code.Rows.{cell, Rowed}
use Rattle.road.proofs.Reading.{dist_read}

pub cell-is : (rows : List ℕ) (r v : ℕ) → get_or rows (r * 1024 + v) 0 ≡ cell rows r v
unfolding cell
cell-is rows r v = refl

-- row r is one of the array's
pub row_inside : (n r w : ℕ) → r < n → 1024 * n ≤ w → r * 1024 + 1024 ≤ w
row_inside n r w h k = omega arith

-- a row that is lent, and the array when it is back
pub part-size : (rows : List ℕ) (at : ℕ) → at + 1024 ≤ length rows → length (take (at + 1024 - at) (drop at rows)) ≡ 1024
part-size rows at h = simp (length-take, length-drop) (omega arith)

pub put_size : (rows ds : List ℕ) (at : ℕ) → at + 1024 ≤ length rows → length ds ≡ 1024
    → length (take at rows ++ (ds ++ drop (at + 1024 - at) (drop at rows))) ≡ length rows
put_size rows ds at h e = simp (length-append, length-take, length-drop) (omega arith)

-- each of the first n rows has its distances
pub record RowedTo (n : ℕ) (road sources rows : List ℕ) : Type 0 where
  pub filled : (r v : ℕ) → r < n → v < 1024 → cell rows r v ≡ dist road (get_or sources r 0) v

pub rowed_none : (road sources rows : List ℕ) → RowedTo 0 road sources rows
rowed_none road sources rows = record { filled = λ r v h k. absurd (omega arith) }

module _ (road sources rows ds rest : List ℕ) (r at : ℕ) (place : at ≡ r * 1024) (room : at ≤ length rows) (size : length ds ≡ 1024) where
  -- the array with a row written over
  abbrev after : List ℕ
  after = take at rows ++ (ds ++ rest)

  before : length (take at rows) ≡ at
  before = length-take-le at rows room

  row_new : (v : ℕ) → v < 1024 → cell after r v ≡ get_or ds v 0
  unfolding cell
  row_new v h =
      let e : r * 1024 + v ≡ length (take at rows) + v = omega (arith, before) in
      rw e (get_or-append-add (take at rows) (ds ++ rest) v 0 ∙ get_or-append ds rest 0 v (omega arith))

  row_old : (s v : ℕ) → s < r → v < 1024 → cell after s v ≡ cell rows s v
  unfolding cell
  row_old s v l h =
      get_or-append (take at rows) (ds ++ rest) 0 (s * 1024 + v) (omega (arith, before)) ∙ get_or-take at rows (s * 1024 + v) 0 (omega arith)

  -- one more row
  pub rowed_more : ds ≡ distances (net road) (junctions road) (get_or sources r 0) → RowedTo r road sources rows → RowedTo (r + 1) road sources after
  rowed_more e f = record { filled = λ s v l h. go s v l h (ℕ_discrete s r) }
    where
      go : (s v : ℕ) → s < r + 1 → v < 1024 → Dec (s ≡ r) → cell after s v ≡ dist road (get_or sources s 0) v
      go s v l h (yes q) = rw q (row_new v h ∙ dist_read road ds (get_or sources r 0) v e (omega arith))
      go s v l h (no q) = row_old s v (omega arith) h ∙ f.filled s v (omega arith) h

pub rowed_all : (road sources rows : List ℕ) (r : ℕ) → length sources ≤ r → 1024 * length sources ≤ length rows → RowedTo r road sources rows
    → Rowed road sources rows
rowed_all road sources rows r h room f = record { room = room; filled = λ s v l k. f.filled s v (omega arith) k }
