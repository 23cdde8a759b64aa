-- `finder::finder_build` hands on, and a lent book is of bytes. Assumes nothing.
use native.Mathlib.Omega.{arith}
use Rattle.book.proofs.Writing.{lent-bytes}
use Rattle.finder.proofs.finder_build.Goals as goal

pub returns-clause-bytes : goal.returns-clause-bytes
returns-clause-bytes c = (
  lent-bytes _ (λ i. omega (arith, c.type_inv.road i)),
  lent-bytes _ (λ i. omega (arith, c.type_inv.yard i)),
)
