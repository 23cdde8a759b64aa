use mathlib.Core.Path.{sym, ◌∙◌}
use native.Mathlib.Omega.{arith}
use Rattle.book.proofs.Choosing.{true_T, false_T}
use Rattle.search_leaf.proofs.Numbering.{element-fits}
use Rattle.search_leaf.proofs.Filling.{yard-near}
use Rattle.search_leaf.proofs.Passing.{passing_none, passing_over, passing_by, passing_all}
use Rattle.search_leaf.proofs.elements.pass_over.Goals.{then-not-shares, else-not-shares}
use Rattle.search_leaf.proofs.elements.pass_over.Goals as goal

pub loop-k-init : goal.loop-k-init
loop-k-init c = passing_none _ _ _ _ _

pub element-e-requires : goal.element-e-requires
element-e-requires c =
    element-fits _ c.args.list.now _ _ c.loop-k-test.true c.requires.0.0 c.requires.0.1

pub bounds-values-place : goal.bounds-values-place
bounds-values-place c =
    omega (arith, c.requires.2, c.loop-k.invariant.same, c.f_at-place.ensures, yard-near _ _ _ _ _ _ c.loop-k-test.true c.element-e.ensures c.requires.1)

pub loop-k-preserved : goal.loop-k-preserved
loop-k-preserved c =
    let inv = c.loop-k.invariant in
    let less = c.loop-k-test.true in
    let e = c.element-e.ensures in
    let shared = c.shares.ensures in
    elim c.if-not-shares.branch [ then-not-shares w ↦ passing_over _ _ _ _ _ _ _ inv less _ e _ w.f_at-place.ensures (false_T (sym shared ∙ w.if-not-shares.true)) _ w.values-is | else-not-shares w ↦ passing_by _ _ _ _ _ _ _ inv less _ e (true_T (sym shared ∙ w.if-not-shares.false)) _ w.values-is ]

pub shape_of-values : goal.shape_of-values
shape_of-values c = c.loop-k.invariant.same

pub returns : goal.returns
returns c = passing_all _ _ _ _ _ _ _ c.loop-k.invariant c.loop-k-test.false
