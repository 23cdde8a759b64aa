use mathlib.Core.Path.{◌≡◌}
use native.Mathlib.Omega.{arith}
use Rattle.build_cuts.proofs.Counting.{below_start, below-turn, below_stop, below_end}
use Rattle.build_cuts.proofs.ranges.below.Goals as goal

pub loop-n-init : goal.loop-n-init
loop-n-init c = below_start _ _

pub returns-then-x-y : goal.returns-then-x-y
returns-then-x-y c =
    below_stop _ _ _ _ c.loop-n.invariant (omega (arith, c.loop-n-test.true, c.count-count.ensures)) c.yard_at-y.ensures
    (omega (arith, c.if-x-y.true))

pub loop-n-preserved : goal.loop-n-preserved
loop-n-preserved c =
    below-turn _ _ _ _ c.loop-n.invariant (omega (arith, c.loop-n-test.true, c.count-count.ensures)) c.yard_at-y.ensures
    (omega (arith, c.if-x-y.false))

pub returns : goal.returns
returns c =
    let end : c.loop-n.n ≡ c.count-count.result = omega (arith, c.loop-n.auto, c.loop-n-test.false) in
    rw (← end) (below_end _ _ _ c.loop-n.invariant (omega (arith, end, c.count-count.ensures)))
