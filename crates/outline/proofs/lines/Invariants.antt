use mathlib.Core.Path.{◌≡◌}
use mathlib.Core.List.{◌++◌}
use Prim.Native.Nat.{◌+◌, ◌*◌, ◌≤◌}
use lib.ListN.{length}
use Rattle.text.specs.Text.{in_turn}
use Rattle.outline.specs.Output.{region_text}
use Rattle.outline.proofs.lines.Given as goal

abbrev pub invariant-loop-i : goal.invariant-loop-i
invariant-loop-i g l = (length l.out ≤ length l.initial.out + 126 * l.i) × (l.out ≡ l.initial.out ++ in_turn (region_text l.b) l.i)
