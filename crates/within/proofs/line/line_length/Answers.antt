use native.Mathlib.Omega.{arith}
use Rattle.within.proofs.Lines.{found_here, not-here, nowhere}
use Rattle.within.proofs.line.line_length.Goals as goal

pub loop-i-init : goal.loop-i-init
loop-i-init c = omega arith

pub returns-then-b-eq10 : goal.returns-then-b-eq10
returns-then-b-eq10 c =
    let l = c.loop-i in
    found_here _ _ l.invariant (omega arith) (omega (arith, c.if-b-eq10.true))

pub loop-i-preserved : goal.loop-i-preserved
loop-i-preserved c =
    let l = c.loop-i in
    not-here _ _ l.invariant (omega arith) (λ e. omega (arith, e, c.if-b-eq10.false))

pub returns : goal.returns
returns c = nowhere _ c.loop-i.i c.loop-i.invariant (omega arith)
