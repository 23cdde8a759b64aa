use mathlib.Core.Path.{◌≡◌, ◌∙◌}
use native.Mathlib.Omega.{arith}
use borrow.Author.Tests.{ne_eqb}
use Rattle.search_held.proofs.Ruling.{enough-few, enough-full, enough-drive}
use Rattle.search_held.proofs.enough.Goals as goal

pub returns-then-len-k : goal.returns-then-len-k
returns-then-len-k c = enough-full _ _ _ c.in-Nearest.is c.len.ensures.count (omega (arith, c.if-len-k.true)) c.greatest.ensures

pub returns-else-len-k : goal.returns-else-len-k
returns-else-len-k c =
    let other : c.len.result ≡ c.in-Nearest.k → ⊥ = λ e. omega (arith, e, c.if-len-k.false) in
    ne_eqb c.len.result c.in-Nearest.k other ∙ enough-few _ _ _ c.in-Nearest.is c.len.ensures.count other

pub returns-in-InDrive : goal.returns-in-InDrive
returns-in-InDrive c = enough-drive _ _ _ c.in-InDrive.is
