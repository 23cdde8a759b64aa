use mathlib.Core.Path.{◌≡◌, sym}
use native.Mathlib.Omega.{arith}
use Rattle.book.specs.Open.{open_refusal}
use Rattle.book.proofs.Opening.{opened_body, opens}
use Rattle.book.proofs.Refusals.{passed_on, refusal_some}
use Rattle.query.proofs.Reading.{not_opened, answer-refused, answer-asked}
use Rattle.query.proofs.read.Goals.{In_ok-open}
use Rattle.query.proofs.read.Goals as goal

-- past the first `?` the book opens
body : (c : In_ok-open) → open_refusal c.args.b.now 1 7 ≡ 0
body c = opened_body _ (sym c.in_ok-open.ensures)

pub returns-in_err-open : goal.returns-in_err-open
returns-in_err-open c = rw (passed_on _ _ c.from_residual.ensures.1) (not_opened _ _ _ c.in_err-open.ensures)

pub header-q-requires : goal.header-q-requires
header-q-requires c = omega (arith, (opens _ _ _ (body c)).headed)

pub refusal-requires : goal.refusal-requires
refusal-requires c = (body (goal.at.refusal-requires c).In_ok-open, c.header-q.ensures)

pub returns-in_err-refusal : goal.returns-in_err-refusal
returns-in_err-refusal c =
    rw (passed_on _ _ c.from_residual-in_err-refusal.ensures.1) (answer-refused _ _ _ c.in_err-refusal.ensures (refusal_some _))

pub returns : goal.returns
returns c = answer-asked _ _ _ c.in_ok-refusal.ensures c.header-q.ensures
