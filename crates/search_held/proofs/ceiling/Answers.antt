use native.Mathlib.Omega.{arith}
use Rattle.search_held.proofs.Ruling.{ceiling-few, ceiling-full, ceiling-drive}
use Rattle.search_held.proofs.ceiling.Goals as goal

pub returns-in-Nearest : goal.returns-in-Nearest
returns-in-Nearest c = ceiling-full _ _ c.in-Nearest.is c.len.ensures.count (omega (arith, c.if-len-k.true)) (omega (arith, c.greatest.ensures))

pub returns-in-Nearest-2 : goal.returns-in-Nearest-2
returns-in-Nearest-2 c = ceiling-few _ _ c.in-Nearest.is c.len.ensures.count (λ e. omega (arith, e, c.if-len-k.false))

pub returns-in-InDrive : goal.returns-in-InDrive
returns-in-InDrive c = ceiling-drive _ _ c.in-InDrive.is (omega arith)
