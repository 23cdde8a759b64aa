use mathlib.Core.Path.{◌≡◌}
use mathlib.Core.List.{List}
use Prim.Native.Nat.{ℕ}
use lib.ListN.{length}
use Rattle.road_layout.specs.Road.{roads}
use Rattle.adjacency.specs.Adjacency.{Adjacency}
use Rattle.road.proofs.Reading.{RowLast}
use Rattle.build_rules.specs.Cut.{borders}
use Rattle.build_records.specs.Given.{given}
use Rattle.build_records.specs.code.Marks.{mark_bytes}
use Rattle.build_records.proofs.Turns.{Marking}
use Rattle.build_records.proofs.put_marks.Given as goal

abbrev pub invariant-loop-j : goal.invariant-loop-j
invariant-loop-j l = (length l.row ≡ 1024) × RowLast l.adj l.row l.last
    × ((road : List ℕ) (limit : ℕ) → Adjacency road l.adj
    → Marking (mark_bytes (given road l.yb l.r.landmarks limit) l.yb l.p.from l.p.end l.r.children) l.size l.r.landmarks l.p.start.number l.p.size
    (borders (roads road) l.p.start.number l.p.size) l.initial.tree l.start l.tree l.j)
