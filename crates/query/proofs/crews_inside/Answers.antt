use mathlib.Core.Path.{sym, ◌∙◌}
use native.Mathlib.Omega.{arith}
use Rattle.query.proofs.CrewList.{starts, goes_on, stops, ends}
use Rattle.query.proofs.crews_inside.Goals as goal

pub loop-i-init : goal.loop-i-init
loop-i-init c = starts _ _ _ c.requires.0

pub returns-then-n-crew_at : goal.returns-then-n-crew_at
returns-then-n-crew_at c =
    sym (stops _ _ _ _ _ c.crew_at.ensures c.loop-i-test.true (omega (arith, c.if-n-crew_at.true))) ∙ c.loop-i.invariant

pub loop-i-preserved : goal.loop-i-preserved
loop-i-preserved c =
    goes_on _ _ _ _ _ c.crew_at.ensures c.loop-i-test.true (omega (arith, c.if-n-crew_at.false)) ∙ c.loop-i.invariant

pub returns : goal.returns
returns c = sym (ends _ _ _ _ c.loop-i-test.false) ∙ c.loop-i.invariant
