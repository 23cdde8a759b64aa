use mathlib.Core.Path.{refl}
use native.Mathlib.Omega.{arith}
use Rattle.build_records.proofs.Numbered.{yard_read, yard-fits}
use Rattle.build_records.proofs.Measuring.{measuring_start, measuring_turn, measuring_end}
use Rattle.build_records.proofs.spans.measure.Goals as goal

pub bounds-row-first : goal.bounds-row-first
bounds-row-first c =
    omega (
      arith,
      yard-fits _ _ _ c.requires.0 _ _ c.requires.1 c.yard_at-first.ensures,
      c.requires.2,
    )

pub loop-k-init : goal.loop-k-init
loop-k-init c =
    measuring_start _ _ _ _ _ _ c.requires.1 (yard_read _ _ _ c.requires.0 _ _ c.requires.1
    c.yard_at-first.ensures) refl

pub bounds-row-y : goal.bounds-row-y
bounds-row-y c =
    omega (
      arith,
      yard-fits _ _ _ c.requires.0 _ _
          c.loop-k-test.true c.yard_at-y.ensures,
      c.requires.2,
    )

pub loop-k-preserved : goal.loop-k-preserved
loop-k-preserved c =
    let h = c.loop-k-test.true in
    measuring_turn _ _ _ _ _ _ _ _ _ _ _ c.loop-k.invariant h (yard_read _ _ _
    c.requires.0 _ _ h
    c.yard_at-y.ensures) refl c.min-low.ensures c.max-high.ensures

pub returns : goal.returns
returns c = measuring_end _ _ _ _ _ _ _ c.loop-k.invariant c.loop-k-test.false
