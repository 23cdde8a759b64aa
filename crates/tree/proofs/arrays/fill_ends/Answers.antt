use native.Mathlib.Omega.{arith}
use Rattle.tree.proofs.Ending.{hops-inside, ends-step, ends-done}
use Rattle.tree.proofs.arrays.fill_ends.Goals as goal

pub after_siblings-requires : goal.after_siblings-requires
after_siblings-requires c =
    hops-inside _ _ c.requires.0 c.requires.1 _ _ (omega arith) (omega arith) _ _ c.requires.2 c.loop-i.invariant _ c.fields-f.ensures

pub loop-i-preserved : goal.loop-i-preserved
loop-i-preserved c =
    ends-step _ _ c.requires.0 c.requires.1 _ _ (omega arith) (omega arith) _ _ c.requires.2 c.loop-i.invariant _ c.fields-f.ensures _ c.after_siblings.ensures

pub returns : goal.returns
returns c =
    ends-done _ _ c.requires.0 c.requires.1 _ _ _ (omega arith) c.requires.2 c.loop-i.invariant
