use mathlib.Core.Path.{◌≡◌}
use mathlib.Core.List.{List}
use Prim.Native.Nat.{ℕ}
use lib.ListN.{length, drop}
use Rattle.adjacency.specs.Adjacency.{Adjacency}
use Rattle.road.specs.Dijkstra.{dist}
use Rattle.road.proofs.Reading.{RowLast}
use Rattle.tree_layout.specs.code.Marks.{marks_at}
use Rattle.tree_layout.specs.Refusal.{all}
use Rattle.check_rules.specs.Truth.{true_list}
use Rattle.check_distances.proofs.lists.lists_true.Given as goal

abbrev pub invariant-loop-j : goal.invariant-loop-j
invariant-loop-j l = (length l.ds ≡ 1024) × RowLast l.adj l.ds l.last
    × ((road : List ℕ) → Adjacency road l.adj → all (true_list (dist road)) (drop l.j (marks_at l.tree l.f.at)) ≡ all (true_list (dist road)) (marks_at l.tree l.f.at))
