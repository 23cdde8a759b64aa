use native.Mathlib.Omega.{arith}
use Rattle.yard.proofs.YardLayout.{five, count_small, yard-ends, read_yard}
use Rattle.yard.proofs.yard_at.Goals as goal

pub place-requires : goal.place-requires
place-requires c = (five _ c.requires.0, omega (arith, c.requires.1, (count_small c.args.b.now c.requires.0).1))

pub u16_at-requires : goal.u16_at-requires
u16_at-requires c = omega (arith, c.place.ensures, yard-ends c.args.b.now c.args.i c.requires.0 c.requires.1)

pub returns : goal.returns
returns c = read_yard _ _ _ _ c.place.ensures c.u16_at.ensures c.requires.1
