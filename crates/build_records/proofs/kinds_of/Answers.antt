use native.Mathlib.Omega.{arith}
use Rattle.build_records.proofs.Gathering.{gathering_start, gathering_turn, gathering_end}
use Rattle.build_records.proofs.kinds_of.Goals as goal

pub loop-k-init : goal.loop-k-init
loop-k-init c = gathering_start _ _ _ c.requires

pub loop-k-preserved : goal.loop-k-preserved
loop-k-preserved c = gathering_turn _ _ _ c.requires _ _ _ _ c.loop-k.invariant c.loop-k-test.true c.kinds_at.ensures c.join-x.ensures

pub returns : goal.returns
returns c = gathering_end _ _ _ c.requires _ _ c.loop-k.invariant (omega arith)
