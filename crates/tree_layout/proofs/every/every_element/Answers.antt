use mathlib.Core.Path.{sym, ◌∙◌}
use native.Mathlib.Omega.{arith}
use borrow.Author.Tests.{not-true, not-false}
use Rattle.tree_layout.proofs.EachPart.{element-inside, elements_first, elements_done, elements_on, elements_off}
use Rattle.tree_layout.proofs.every.every_element.Goals as goal

pub loop-k-init : goal.loop-k-init
loop-k-init g c = λ ok t. elements_first ok _ _ _

pub element-requires : goal.element-requires
element-requires g c =
    (omega (arith, c.loop-k-test.true, c.requires.0), element-inside _ _ _ _ c.requires.1 c.loop-k-test.true)

pub returns-then-not-test : goal.returns-then-not-test
returns-then-not-test g c =
    λ ok t. sym (elements_off ok _ _ _ _ c.loop-k-test.true _ t _ c.element.ensures _ c.test.ensures (not-true _ c.if-not-test.true-raw)) ∙ c.loop-k.invariant ok t

pub loop-k-preserved : goal.loop-k-preserved
loop-k-preserved g c =
    λ ok t. elements_on ok _ _ _ _ c.loop-k-test.true _ t _ c.element.ensures _ c.test.ensures (not-false _ c.if-not-test.false-raw) ∙ c.loop-k.invariant ok t

pub returns : goal.returns
returns g c = λ ok t. sym (elements_done ok _ _ _ _ (omega (arith, c.loop-k-test.false))) ∙ c.loop-k.invariant ok t
