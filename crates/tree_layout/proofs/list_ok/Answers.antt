use mathlib.Core.Path.{sym, ◌∙◌}
use native.Mathlib.Omega.{arith}
use borrow.Author.Tests.{not-true, not-false}
use Rattle.tree_layout.proofs.EachPart.{element-inside}
use Rattle.tree_layout.proofs.Sizes.{list-room}
use Rattle.tree_layout.proofs.Accessing.{listed-is}
use Rattle.tree_layout.proofs.Turns.{list_bad, list_start, list-limit, list-order, list-next, list-end}
use Rattle.tree_layout.proofs.list_ok.Goals.{then-not-element_ok-2-via-then-not-element_ok-2, then-not-element_ok-2-via-else-not-element_ok-2+then-not-comes}
use Rattle.tree_layout.proofs.list_ok.Goals as goal

pub element-last-requires : goal.element-last-requires
element-last-requires c = (omega arith, element-inside _ _ _ _ c.requires.2 c.requires.0)

pub returns-then-not-element_ok : goal.returns-then-not-element_ok
returns-then-not-element_ok c =
    sym (list_bad _ _ _ c.requires.0 _ (listed-is _ _ 0 _ c.element-last.ensures) (sym c.element_ok.ensures ∙ c.if-not-element_ok.true))

pub loop-k-init : goal.loop-k-init
loop-k-init c = list_start _ _ _ c.requires.0 _ (listed-is _ _ 0 _ c.element-last.ensures) (sym c.element_ok.ensures ∙ c.if-not-element_ok.false)

pub element-e-requires : goal.element-e-requires
element-e-requires c =
    (omega (arith, c.loop-k-test.true, c.requires.1), element-inside _ _ _ _ c.requires.2 c.loop-k-test.true)

pub returns-then-not-element_ok-2 : goal.returns-then-not-element_ok-2
returns-then-not-element_ok-2 c =
    let e = c.element-e in
    elim c.then-not-element_ok-2.branch [
      | then-not-element_ok-2-via-then-not-element_ok-2 w ↦
          sym (list-limit _ _ _ _ _ c.loop-k-test.true _ (listed-is _ _ _ _ e.ensures) (sym c.element_ok-in-loop-k.ensures ∙ w.if-not-element_ok-2.true)) ∙ c.loop-k.invariant
      | then-not-element_ok-2-via-else-not-element_ok-2+then-not-comes w ↦
          sym (list-order _ _ _ _ _ c.loop-k-test.true _ (listed-is _ _ _ _ e.ensures) (sym w.comes.ensures ∙ w.if-not-comes.true)) ∙ c.loop-k.invariant
    ]

pub loop-k-preserved : goal.loop-k-preserved
loop-k-preserved c =
    list-next _ _ _ _ _ c.loop-k-test.true _ (listed-is _ _ _ _ c.element-e.ensures)
    (sym c.element_ok-in-loop-k.ensures ∙ c.if-not-element_ok-2.false) (sym c.comes.ensures ∙ c.if-not-comes.false)
    ∙ c.loop-k.invariant

pub returns : goal.returns
returns c = sym (list-end _ _ _ _ _ (omega (arith, c.loop-k-test.false))) ∙ c.loop-k.invariant
