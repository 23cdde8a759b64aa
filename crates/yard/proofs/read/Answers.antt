use mathlib.Core.Path.{sym}
use Rattle.book.proofs.Refusals.{passed_on, refusal_some}
use Rattle.yard.proofs.Answering.{answers-refused, answers-yards}
use Rattle.yard.proofs.read.Goals as goal

pub returns-in_err-refusal : goal.returns-in_err-refusal
returns-in_err-refusal c =
    rw (passed_on _ _ c.from_residual.ensures.1) (answers-refused _ _ c.in_err-refusal.ensures (refusal_some _))

pub count-requires : goal.count-requires
count-requires c = sym c.in_ok-refusal.ensures

pub returns : goal.returns
returns c = answers-yards _ _ (sym c.in_ok-refusal.ensures) c.count.ensures
