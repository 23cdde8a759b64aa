use native.Mathlib.Omega.{arith}
use Rattle.search_state.proofs.Settling.{settled_empty, settled-queued, small_key}
use Rattle.search_state.proofs.settled.Goals as goal

pub returns-then-least-eq-UNQUEUED : goal.returns-then-least-eq-UNQUEUED
returns-then-least-eq-UNQUEUED c = settled_empty _ _ _ c.if-least-eq-UNQUEUED.true

pub returns : goal.returns
returns c = settled-queued _ _ _ _ (small_key _ c.if-least-eq-UNQUEUED.false (omega arith)) c.enough.ensures
