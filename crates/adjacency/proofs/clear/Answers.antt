use native.Mathlib.Omega.{arith}
use lib.ListN.{length-set}
use lib.Seq.{get_or-set_same}
use Rattle.adjacency.specs.Adjacency.{count_in}
use Rattle.adjacency.proofs.Clearing.{cleared_bare}
use Rattle.adjacency.proofs.clear.Goals as goal

pub returns : goal.returns
unfolding count_in
returns c =
    cleared_bare _ _ _ (simp length-set c.requires) (get_or-set_same c.args.adj.now 0 c.args.n 0 (omega arith)) (c.fill.ensures.after (λ y e. e))
