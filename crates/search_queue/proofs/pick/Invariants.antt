use Prim.Native.Nat.{◌-◌, ◌≤◌}
use lib.ListN.{length}
use Rattle.search_queue.proofs.Picking.{Picked}
use Rattle.search_queue.proofs.pick.Given as goal

abbrev pub invariant-loop-j : goal.invariant-loop-j
invariant-loop-j l = (l.j ≤ length l.words) × Picked l.words l.j l.p l.least

abbrev pub decreases-loop-j : goal.decreases-loop-j
decreases-loop-j l = length l.words - l.j
