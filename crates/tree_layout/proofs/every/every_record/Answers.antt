use mathlib.Core.Path.{sym, ◌∙◌}
use native.Mathlib.Omega.{arith}
use native.Mathlib.Nat.{sub-zero}
use borrow.Author.Tests.{not-true, not-false}
use Rattle.tree_layout.proofs.EachPart.{records_on, records_off, record_later}
use Rattle.tree_layout.proofs.Places.{place-zero}
use Rattle.tree_layout.proofs.Turns.{record_fields, record_whole, records_later, regions-end}
use Rattle.tree_layout.proofs.every.every_record.Goals as goal

pub loop-init : goal.loop-init
loop-init g c = (sym (place-zero _ _ _), simp sub-zero c.requires.2, λ ok t. simp sub-zero)

pub test-requires : goal.test-requires
test-requires g c = rw c.loop.invariant.0 (c.requires.3 c.loop.counter c.loop-test.true)

pub returns-then-not-test : goal.returns-then-not-test
returns-then-not-test g c =
    let i = c.loop.invariant in
    λ ok t. sym (records_off _ _ _ _ c.loop-test.true _ i.0 (goal.F-post g c.args.test) ok t _ c.test.ensures (not-true _ c.if-not-test.true-raw)) ∙ i.2 ok t

pub size_at-at-requires : goal.size_at-at-requires
size_at-at-requires g c =
    (c.requires.0, c.requires.1, record_fields _ _ _ _ _ c.loop-test.true c.loop.invariant.1)

pub overflow_add-at : goal.overflow_add-at
overflow_add-at g c = omega (arith, record_whole _ _ _ _ _ c.loop-test.true c.loop.invariant.1, c.size_at-at.ensures)

pub loop-preserved : goal.loop-preserved
loop-preserved g c =
    let i = c.loop.invariant in (
      record_later _ _ _ _ i.0 _ c.size_at-at.ensures,
      records_later _ _ _ _ _ c.loop-test.true i.1 _ c.size_at-at.ensures,
      λ ok t. records_on _ _ _ _ c.loop-test.true _ i.0 (goal.F-post g c.args.test) ok t _ c.test.ensures (not-false _ c.if-not-test.false-raw) _ c.size_at-at.ensures ∙ i.2 ok t,
    )

pub returns : goal.returns
returns g c = λ ok t. sym (regions-end ok _ _ _ _ _ (omega (arith, c.loop-test.false))) ∙ c.loop.invariant.2 ok t
