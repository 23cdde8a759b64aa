use mathlib.Core.Path.{◌≡◌}
use Rattle.tree.specs.Arrays.{overwrite}
use Rattle.search_bounds.proofs.Places.{root_place}
use Rattle.search_bounds.proofs.table.root_places.Given as goal

abbrev pub invariant-loop-r : goal.invariant-loop-r
invariant-loop-r l = l.places ≡ overwrite (root_place l.tree) l.r l.initial.places
