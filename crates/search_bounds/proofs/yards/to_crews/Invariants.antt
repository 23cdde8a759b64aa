use mathlib.Core.Path.{◌≡◌}
use mathlib.Core.List.{List}
use Prim.Native.Nat.{ℕ, ◌<◌}
use lib.ListN.{length}
use Rattle.road_layout.specs.Road.{junctions}
use Rattle.search_bounds.specs.code.Measures.{Driven}
use Rattle.search_bounds.proofs.ToCrews.{Towards}
use Rattle.search_bounds.proofs.yards.to_crews.Given as goal

abbrev pub invariant-loop-j : goal.invariant-loop-j
invariant-loop-j l = (length l.out ≡ length l.crews) × ((road : List ℕ) → Driven road l.crews l.drives → l.l.number < junctions road → Towards road l.l.number l.crews l.out l.j)
