use mathlib.Core.Path.{sym, ◌∙◌}
use native.Mathlib.Omega.{arith}
use borrow.Author.Tests.{not-true, not-false}
use Rattle.tree.proofs.Recursing.{none_left, past_end, at_inner, at_leaf, at_bad, at_good, sum_over, sum_done, none-there, sub-none, not_fitting}
use Rattle.tree.proofs.Recursing.{fitting, goes_on}
use Rattle.tree.proofs.shape.+siblings_end_subtree_end.Goals as goal

pub siblings_end-returns-then-left-ne0 : goal.siblings_end-returns-then-left-ne0
siblings_end-returns-then-left-ne0 t c =
    sum_over _ _ c.requires _ _ _ _ _ c.args.left c.if-n-eq0.true (λ e. omega (arith, e, c.if-left-ne0.true))

pub siblings_end-returns-then-n-eq0 : goal.siblings_end-returns-then-n-eq0
siblings_end-returns-then-n-eq0 t c =
    sum_done _ _ c.requires _ _ _ _ _ c.args.left c.if-n-eq0.true (omega (arith, c.if-left-ne0.false))

pub siblings_end-returns-then-places-r : goal.siblings_end-returns-then-places-r
siblings_end-returns-then-places-r t c =
    none-there _ _ c.requires _ _ _ _ _ _ c.if-n-eq0.false c.if-places-r.true

pub siblings_end-returns-then-not-child_fits : goal.siblings_end-returns-then-not-child_fits
siblings_end-returns-then-not-child_fits t c =
    not_fitting _ _ c.requires _ _ _ _ _ _ c.if-n-eq0.false _ c.fields-f.ensures (sym c.child_fits.ensures
    ∙ not-true _ c.if-not-child_fits.true-raw)

pub siblings_end-returns-in_err-next : goal.siblings_end-returns-in_err-next
siblings_end-returns-in_err-next t c = c.from_residual.ensures ∙
    sub-none _ _ c.requires _ _ _ _ _ _ c.if-n-eq0.false c.in_err-next.ensures

pub siblings_end-overflow_sub-left : goal.siblings_end-overflow_sub-left
siblings_end-overflow_sub-left t c =
    fitting _ _ c.requires 0 _ _ _ _ _ c.if-n-eq0.false _ c.fields-f.ensures (sym c.child_fits.ensures
    ∙ not-false _ c.if-not-child_fits.false-raw)

pub siblings_end-returns : goal.siblings_end-returns
siblings_end-returns t c =
    c.siblings_end.ensures ∙ goes_on _ _ c.requires _ _ _ _ _ _ c.if-n-eq0.false _ c.fields-f.ensures
    (sym c.child_fits.ensures ∙ not-false _ c.if-not-child_fits.false-raw) _ c.in_ok-next.ensures

pub subtree_end-returns-then-levels-eq0 : goal.subtree_end-returns-then-levels-eq0
subtree_end-returns-then-levels-eq0 t c =
    none_left _ _ c.requires _ _ c.if-levels-eq0.true

pub subtree_end-returns-then-places-r : goal.subtree_end-returns-then-places-r
subtree_end-returns-then-places-r t c =
    past_end _ _ c.requires _ _ c.if-places-r.true

pub subtree_end-returns-then-f-ne0 : goal.subtree_end-returns-then-f-ne0
subtree_end-returns-then-f-ne0 t c =
    c.siblings_end.ensures ∙ at_inner _ _ c.requires _ _ c.if-levels-eq0.false c.if-places-r.false _ c.fields-f.ensures c.if-f-ne0.true

pub subtree_end-leaf_ok-requires : goal.subtree_end-leaf_ok-requires
subtree_end-leaf_ok-requires t c =
    at_leaf _ _ c.requires _ _ c.if-levels-eq0.false c.if-places-r.false _ c.fields-f.ensures c.if-f-ne0.false

pub subtree_end-returns-then-not-leaf_ok : goal.subtree_end-returns-then-not-leaf_ok
subtree_end-returns-then-not-leaf_ok t c =
    at_bad _ _ c.requires _ _ c.if-levels-eq0.false c.if-places-r.false _ c.fields-f.ensures c.if-f-ne0.false (sym c.leaf_ok.ensures
    ∙ not-true _ c.if-not-leaf_ok.true-raw)

pub subtree_end-returns : goal.subtree_end-returns
subtree_end-returns t c =
    at_good _ _ c.requires _ _ c.if-levels-eq0.false c.if-places-r.false _ c.fields-f.ensures c.if-f-ne0.false (sym c.leaf_ok.ensures
    ∙ not-false _ c.if-not-leaf_ok.false-raw)
