use native.Mathlib.Omega.{arith}
use Rattle.book.specs.Bytes.{u16_at}
use Rattle.book.proofs.u16_at.Goals as goal

pub returns : goal.returns
unfolding u16_at
returns c = omega arith
