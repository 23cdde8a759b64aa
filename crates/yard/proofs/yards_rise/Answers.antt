use mathlib.Core.Path.{sym, ◌∙◌}
use native.Mathlib.Nat.{sub-zero}
use native.Mathlib.Omega.{arith}
use Rattle.yard.proofs.Places.{place-room}
use Rattle.yard.proofs.Rising.{goes_on, falls, high, ends}
use Rattle.yard.proofs.YardLayout.{read_yard-at}
use Rattle.yard.proofs.yards_rise.Goals as goal

pub loop-i-init : goal.loop-i-init
loop-i-init c = simp sub-zero

pub place-requires : goal.place-requires
place-requires c = (c.requires.0, omega (arith, c.loop-i-test.true, c.requires.1))

pub u16_at-y-requires : goal.u16_at-y-requires
u16_at-y-requires c =
    omega (
      arith,
      c.place.ensures,
      c.requires.2,
      place-room c.args.b.now c.loop-i.i c.args.count c.loop-i-test.true,
    )

pub returns-then-y-low : goal.returns-then-y-low
returns-then-y-low c =
    sym (falls _ _ _ _ _ c.loop-i-test.true (read_yard-at _ _ _ _ c.place.ensures c.u16_at-y.ensures) (omega (arith, c.if-y-low.true)))
    ∙ c.loop-i.invariant

pub returns-then-y-ge1024 : goal.returns-then-y-ge1024
returns-then-y-ge1024 c =
    sym (high _ _ _ _ _ c.loop-i-test.true (read_yard-at _ _ _ _ c.place.ensures c.u16_at-y.ensures) (omega (arith, c.if-y-low.false))
    (omega (arith, c.if-y-ge1024.true)))
    ∙ c.loop-i.invariant

pub loop-i-preserved : goal.loop-i-preserved
loop-i-preserved c =
    goes_on _ _ _ _ _ c.loop-i-test.true (read_yard-at _ _ _ _ c.place.ensures c.u16_at-y.ensures) (omega (arith, c.if-y-low.false))
    (omega (arith, c.if-y-ge1024.false))
    ∙ c.loop-i.invariant

pub returns : goal.returns
returns c = sym (ends _ _ _ _ c.loop-i-test.false) ∙ c.loop-i.invariant
