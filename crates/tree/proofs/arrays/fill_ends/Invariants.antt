use lib.ListN.{length}
use Rattle.tree_layout.specs.Decode.{decode}
use Rattle.tree.specs.Yards.{end_of}
use Rattle.tree.proofs.Ending.{Filled}
use Rattle.tree.proofs.arrays.fill_ends.Given as goal

abbrev pub invariant-loop-i : goal.invariant-loop-i
invariant-loop-i l = Filled (end_of (decode l.b).regions) l.i (length l.places) l.initial.ends l.ends
