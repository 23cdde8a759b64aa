use mathlib.Core.Path.{◌≡◌}
use Prim.Native.Nat.{◌+◌}
use native.Mathlib.Omega.{arith}
use Rattle.book.specs.Bytes.{u16_at, u32_at}
use Rattle.book.proofs.u32_at.Goals as goal

pub returns : goal.returns
unfolding u32_at u16_at
returns c =
    let last : c.args.i + 2 + 1 ≡ c.args.i + 3 = omega arith in
    rw last (omega arith)
