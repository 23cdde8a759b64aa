use mathlib.Core.Path.{◌≡◌}
use Rattle.tree_layout.specs.Decode.{place_of}
use Rattle.tree.specs.Arrays.{overwrite}
use Rattle.tree.proofs.arrays.fill_places.Given as goal

abbrev pub invariant-loop-i : goal.invariant-loop-i
invariant-loop-i l = (l.at ≡ place_of l.b l.i) × (l.places ≡ overwrite (place_of l.b) l.i l.initial.places)
