use mathlib.Core.Path.{◌≡◌}
use mathlib.Core.List.{List, ◌++◌}
use Prim.Native.Nat.{ℕ, ◌+◌, ◌*◌, ◌≤◌}
use lib.ListN.{length}
use Rattle.adjacency.specs.Adjacency.{Adjacency}
use Rattle.text.specs.Text.{in_turn}
use Rattle.eccentricity.specs.Output.{row_text}
use Rattle.eccentricity.proofs.rows.Given as goal

abbrev pub invariant-loop-u : goal.invariant-loop-u
invariant-loop-u g l = (length l.out ≤ length l.initial.out + 63 * l.u)
    × ((b : List ℕ) → Adjacency b l.adj → l.out ≡ l.initial.out ++ in_turn (row_text b) l.u)
