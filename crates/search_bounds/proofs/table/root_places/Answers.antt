use native.Mathlib.Omega.{arith}
use Rattle.search_bounds.proofs.Places.{read_none, read_next, read_all}
use Rattle.search_bounds.proofs.table.root_places.Goals as goal

pub loop-r-init : goal.loop-r-init
loop-r-init c = read_none _ _

pub landmark-k-requires : goal.landmark-k-requires
landmark-k-requires c = (c.requires.0, omega (arith, c.requires.1, c.loop-r-test.true))

pub loop-r-preserved : goal.loop-r-preserved
loop-r-preserved c = read_next _ c.requires.0 _ _ _ _ _ c.loop-r.invariant (omega (arith, c.requires.1, c.loop-r-test.true)) c.landmark-k.ensures (omega arith)

pub returns : goal.returns
returns c = read_all _ _ _ _ c.requires.1 c.loop-r.invariant (omega arith) (omega arith)
