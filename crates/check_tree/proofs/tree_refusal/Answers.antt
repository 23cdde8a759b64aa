use native.Mathlib.Omega.{arith}
use borrow.Author.Tests.{not-true, not-false}
use Rattle.book.proofs.Refusals.{passed_on}
use Rattle.check_tree.proofs.Answering.{tree_own, step-junctions, step_counts, step_needs, step-yards, step-beside, step_untrue, step_untrue_kinds, step_true}
use Rattle.check_tree.proofs.tree_refusal.Goals as goal

pub returns-in_err-header : goal.returns-in_err-header
returns-in_err-header c = λ road a. rw (passed_on _ _ c.from_residual.ensures.1) (tree_own road _ _ _ c.in_err-header.ensures.answer)

pub junctions-requires : goal.junctions-requires
junctions-requires c = c.requires.0.adjacent.size

pub returns-then-header-junctions : goal.returns-then-header-junctions
returns-then-header-junctions c =
    let p = c.requires in
    step-junctions _ _ _ p.0 p.1 _ c.in_ok-header.ensures.answer _ c.junctions.ensures (λ e. omega (arith, e, c.if-header-junctions.true))

pub count-requires : goal.count-requires
count-requires c = c.requires.1

pub returns-then-header-count : goal.returns-then-header-count
returns-then-header-count c =
    let p = c.requires in
    step_counts _ _ _ p.0 p.1 _ c.in_ok-header.ensures.answer _ c.junctions.ensures
    (omega (arith, c.if-header-junctions.false)) _ c.count.ensures
    (λ e. omega (arith, e, c.if-header-count.true))

pub yards_known-requires : goal.yards_known-requires
yards_known-requires c =
    let p = c.requires in
    step_needs _ _ _ p.0 p.1 _ c.in_ok-header.ensures.answer

pub returns-then-not-yards_known : goal.returns-then-not-yards_known
returns-then-not-yards_known c =
    let p = c.requires in
    step-yards _ _ _ p.0 p.1 _ c.in_ok-header.ensures.answer _ c.junctions.ensures
    (omega (arith, c.if-header-junctions.false)) _ c.count.ensures
    (omega (arith, c.if-header-count.false)) _ c.yards_known.ensures (not-true _ c.if-not-yards_known.true-raw)

pub numbers_true-requires : goal.numbers_true-requires
numbers_true-requires c =
    let p = c.requires in
    step-beside _ _ _ p.0 p.1 _ c.in_ok-header.ensures.answer _ c.junctions.ensures
    (omega (arith, c.if-header-junctions.false)) _ c.count.ensures
    (omega (arith, c.if-header-count.false)) _ c.yards_known.ensures (not-false _ c.if-not-yards_known.false-raw)

pub returns-then-not-numbers_true : goal.returns-then-not-numbers_true
returns-then-not-numbers_true c =
    let p = c.requires in
    λ road a. step_untrue _ _ _ p.0 p.1 _ c.in_ok-header.ensures.answer _ c.junctions.ensures (omega (arith, c.if-header-junctions.false)) _
    c.count.ensures (omega (arith, c.if-header-count.false)) _ c.yards_known.ensures (not-false _ c.if-not-yards_known.false-raw) _ road a
    (c.numbers_true.ensures road a) (not-true _ c.if-not-numbers_true.true-raw)

pub kinds_true-requires : goal.kinds_true-requires
kinds_true-requires c =
    let p = c.requires in
    step_needs _ _ _ p.0 p.1 _ c.in_ok-header.ensures.answer

pub returns-then-not-kinds_true : goal.returns-then-not-kinds_true
returns-then-not-kinds_true c =
    let p = c.requires in
    λ road a. step_untrue_kinds _ _ _ p.0 p.1 _ c.in_ok-header.ensures.answer _ c.junctions.ensures (omega (arith, c.if-header-junctions.false)) _
    c.count.ensures (omega (arith, c.if-header-count.false)) _ c.yards_known.ensures (not-false _ c.if-not-yards_known.false-raw) _ road a
    (c.numbers_true.ensures road a) (not-false _ c.if-not-numbers_true.false-raw) _ c.kinds_true.ensures (not-true _ c.if-not-kinds_true.true-raw)

pub returns : goal.returns
returns c =
    let p = c.requires in
    λ road a. step_true _ _ _ p.0 p.1 _ c.in_ok-header.ensures.answer _ c.junctions.ensures (omega (arith, c.if-header-junctions.false)) _
    c.count.ensures (omega (arith, c.if-header-count.false)) _ c.yards_known.ensures (not-false _ c.if-not-yards_known.false-raw) _ road a
    (c.numbers_true.ensures road a) (not-false _ c.if-not-numbers_true.false-raw) _ c.kinds_true.ensures (not-false _ c.if-not-kinds_true.false-raw)
