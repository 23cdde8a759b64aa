-- A walk's words are the distances, and so are those of a walk that was made before. Assumes nothing.
use mathlib.Core.Path.{◌≡◌, refl, ap, ◌∙◌}
use mathlib.Core.List.{List, [], ◌∷◌}
use Prim.Native.Nat.{ℕ, zero, suc, ◌≤◌, ◌<◌}
use native.Mathlib.Omega.{arith}
use lib.ListN.{length, get_or}
use Rattle.std.specs.Prelude.{Option, Some, None, IfSome}
use Rattle.book.specs.declared.Junction.{Junction}
use Rattle.road_layout.specs.Road.{junctions}
use Rattle.adjacency.specs.Arcs.{net}
use Rattle.adjacency.specs.Adjacency.{count_in}
use Rattle.road.specs.Dijkstra.{far, at, distances, dist}
use Rattle.road.specs.code.Rows.{RowFrom}

get_d_any : (l : List ℕ) (i d e : ℕ) → i < length l → get_or l i d ≡ get_or l i e
get_d_any [] i d e h = absurd (omega arith)
get_d_any (x ∷ xs) zero d e h = refl
get_d_any (x ∷ xs) (suc i) d e h = get_d_any xs i d e (omega arith)

-- the word of junction y after a walk from l
pub dist_read : (b ds : List ℕ) (l y : ℕ) → ds ≡ distances (net b) (junctions b) l → y < length ds → get_or ds y 0 ≡ dist b l y
unfolding dist at
dist_read b ds l y e h = get_d_any ds y 0 far h ∙ ap (λ (z : List ℕ). get_or z y far) e

-- the last walk was from the same place
pub row_already : (adj ds : List ℕ) (last place : ℕ) → last ≡ place → place < count_in adj → (last < count_in adj → RowFrom adj ds last) → RowFrom adj ds place
row_already adj ds last place e h f road a = rw (← e) (f (omega arith) road a)

-- The row has the distances from the last junction that was walked from, if that is one of the road book.
pub record RowLast (adj ds : List ℕ) (last : Option Junction) : Type 0 where
  pub has : IfSome last (λ u. u.number < count_in adj → RowFrom adj ds u.number)

-- the last one's number, of none one that no road book has
abbrev last_number : Option Junction → ℕ
last_number None = 65535
last_number (Some u) = u.number

-- no walk was made
pub row_none : (adj ds : List ℕ) (last : Option Junction) → count_in adj ≤ last_number last → RowLast adj ds last
row_none adj ds None h = record { has = tt }
row_none adj ds (Some u) h = record { has = λ k. absurd (omega (arith, h, k)) }

-- one was made
pub row_some : (adj ds : List ℕ) (u : Junction) → RowFrom adj ds u.number → RowLast adj ds (Some u)
row_some adj ds u h = record { has = λ k. h }
