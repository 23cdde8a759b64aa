use mathlib.Core.Path.{◌≡◌}
use native.Mathlib.Omega.{arith}
use Rattle.book.proofs.Refusals.{passed_on}
use Rattle.yard.specs.Yards.{yard_count, yard_refusal}
use Rattle.yard.proofs.YardLayout.{count_small}
use Rattle.yard.proofs.Answering.{beside-refused, beside-found, beside-outside, beside-inside}
use Rattle.yard.proofs.read_in.Goals.{In_ok-count}
use Rattle.yard.proofs.read_in.Goals as goal

-- the book is read, with the count that the reader answers
found : (c : In_ok-count)
    → (yard_refusal c.args.b.now ≡ 0)
    × (yard_count c.args.b.now ≡ c.in_ok-count.count)
found c = beside-found _ 0 _ c.in_ok-count.ensures

pub returns-in_err-count : goal.returns-in_err-count
returns-in_err-count c = rw (passed_on _ _ c.from_residual.ensures.1) (beside-refused _ _ _ c.in_err-count.ensures)

pub overflow_sub-count : goal.overflow_sub-count
overflow_sub-count c = omega (arith, (found c).1, (count_small _ (found c).0).0)

pub yard_at-last-requires : goal.yard_at-last-requires
yard_at-last-requires c = ((found c).0, omega (arith, (found c).1, (count_small _ (found c).0).0))

pub returns-then-junctions-last : goal.returns-then-junctions-last
returns-then-junctions-last c =
    beside-outside _ _ _ c.in_ok-count.ensures _ c.yard_at-last.ensures (omega (arith, c.if-junctions-last.true))

pub returns : goal.returns
returns c =
    beside-inside _ _ _ c.in_ok-count.ensures _ c.yard_at-last.ensures (omega (arith, c.if-junctions-last.false))
