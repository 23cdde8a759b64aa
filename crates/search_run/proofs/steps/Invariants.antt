use mathlib.Core.Path.{◌≡◌}
use Prim.Native.Nat.{◌+◌, ◌-◌}
use lib.ListN.{length}
use Rattle.tree_layout.specs.Decode.{junction_count}
use Rattle.search_held.specs.code.Rules.{asking_of}
use Rattle.search_run.proofs.Running.{Steps}
use Rattle.search_run.proofs.steps.Given as goal

abbrev pub invariant-loop-asked : goal.invariant-loop-asked
invariant-loop-asked l = (l.queue ≡ length l.places + junction_count l.tree)
    × Steps l.tree (asking_of l.asked) l.crews l.drives l.places l.table l.asked.limit l.words l.values l.progress l.taken

abbrev pub decreases-loop-asked : goal.decreases-loop-asked
decreases-loop-asked l = l.asked.limit - l.taken
