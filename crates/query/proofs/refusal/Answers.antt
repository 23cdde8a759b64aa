use mathlib.Core.Path.{sym, ◌∙◌}
use native.Mathlib.Omega.{arith}
use borrow.Author.Tests.{not-true, not-false}
use Rattle.query.proofs.Reading.{its_aggregate, its_k, its_crews, misfit, no_crew, many_crews, outside, by_values}
use Rattle.query.proofs.refusal.Goals as goal

pub returns-then-b-count : goal.returns-then-b-count
returns-then-b-count c = sym (misfit _ _ c.requires.0 _ (its_crews _ _ c.requires.1) c.if-b-count.true)

pub returns-then-count-lt1 : goal.returns-then-count-lt1
returns-then-count-lt1 c =
    sym (no_crew _ _ c.requires.0 _ (its_crews _ _ c.requires.1) (omega arith) (omega
    (arith, c.if-count-lt1.true)))

pub returns-then-count-gt16 : goal.returns-then-count-gt16
returns-then-count-gt16 c =
    sym (many_crews _ _ c.requires.0 _ (its_crews _ _ c.requires.1)
    (omega arith) (omega arith) (omega (arith, c.if-count-gt16.true)))

pub crews_inside-requires : goal.crews_inside-requires
crews_inside-requires c = (its_crews _ _ c.requires.1, omega (arith, its_crews _ _ c.requires.1))

pub returns-then-not-crews_inside : goal.returns-then-not-crews_inside
returns-then-not-crews_inside c =
    sym (outside _ _ c.requires.0 _ (its_crews _ _
    c.requires.1) (omega arith) (omega arith) (omega arith) (sym
    c.crews_inside.ensures ∙ not-true _ c.if-not-crews_inside.true-raw))

pub returns : goal.returns
returns c =
    by_values _ _ c.requires.0 _ (its_crews _ _
    c.requires.1) (omega arith) (omega arith) (omega arith) (sym
    c.crews_inside.ensures ∙ not-false _ c.if-not-crews_inside.false-raw)
    _ _ _ (its_aggregate _ _ c.requires.1) (its_k _ _
    c.requires.1) c.values.ensures
