use mathlib.Core.Path.{sym}
use Rattle.book.proofs.Refusals.{passed_on, refusal_some}
use Rattle.tree_layout.proofs.Accepting.{layout-facts}
use Rattle.tree_layout.proofs.Refusing.{answers-refused, answers-laid}
use Rattle.tree_layout.proofs.read.Goals as goal

pub returns-in_err-layout : goal.returns-in_err-layout
returns-in_err-layout c =
    rw (passed_on _ _ c.from_residual.ensures.1) (answers-refused _ _ c.in_err-layout.ensures (refusal_some _))

pub header-requires : goal.header-requires
header-requires c = (layout-facts _ (sym c.in_ok-layout.ensures)).opens.headed

pub returns : goal.returns
returns c = answers-laid _ _ (sym c.in_ok-layout.ensures) c.header.ensures
