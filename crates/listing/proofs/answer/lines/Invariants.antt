use mathlib.Core.Path.{◌≡◌}
use mathlib.Core.List.{◌++◌}
use Prim.Native.Nat.{◌+◌, ◌*◌, ◌≤◌}
use lib.ListN.{length}
use Rattle.text.specs.Text.{in_turn}
use Rattle.listing.specs.Output.{listed_line}
use Rattle.listing.proofs.answer.lines.Given as goal

abbrev pub invariant-loop-i : goal.invariant-loop-i
invariant-loop-i g l = (length l.out ≤ length l.initial.out + 42 * l.i) × (l.out ≡ l.initial.out ++ in_turn (listed_line l.results) l.i)
