use borrow.Author.Tests.{ltb-true, ltb-false, eqb-true, eqb-false}
use mathlib.Core.Path.{sym, ◌∙◌}
use native.Mathlib.Omega.{arith}
use lib.ListN.{length}
use Rattle.within.proofs.Numbers.{reading_none, reading_more, too_large, no_digit, empty_not, read_whole}
use Rattle.within.proofs.line.number.Goals.{then-b-lt48-via-then-b-lt48, then-b-lt48-via-else-b-lt48+then-b-gt57}
use Rattle.within.proofs.line.number.Goals as goal

pub loop-i-init : goal.loop-i-init
loop-i-init c = reading_none _

pub returns-then-b-lt48 : goal.returns-then-b-lt48
returns-then-b-lt48 c =
    let l = c.loop-i in
    no_digit l.invariant (omega arith) (λ low high. elim c.then-b-lt48.branch [ then-b-lt48-via-then-b-lt48 w ↦ omega (arith, w.if-b-lt48.true) | then-b-lt48-via-else-b-lt48+then-b-gt57 w ↦ omega (arith, ltb-true, w.if-b-gt57.true) ])

pub overflow_cast-n : goal.overflow_cast-n
overflow_cast-n c = omega (arith, ltb-false)

pub overflow_add-n : goal.overflow_add-n
overflow_add-n c = omega (arith, ltb-false)

pub returns-then-n-gt-MOST : goal.returns-then-n-gt-MOST
returns-then-n-gt-MOST c =
    let l = c.loop-i in
    too_large l.invariant (omega arith) (omega (arith, c.if-n-gt-MOST.true))

pub loop-i-preserved : goal.loop-i-preserved
loop-i-preserved c =
    let l = c.loop-i in
    reading_more l.invariant (omega arith) _ (omega arith) (omega arith) (omega (arith, ltb-false)) (omega (arith, c.if-n-gt-MOST.false))

pub returns-then-is_empty : goal.returns-then-is_empty
returns-then-is_empty c = empty_not _ (eqb-true _ 0 (sym c.is_empty.ensures ∙ c.if-is_empty.true))

pub returns : goal.returns
returns c = read_whole c.loop-i.invariant (omega arith) (omega (arith, eqb-false (length c.args.s.now) 0 (sym c.is_empty.ensures ∙ c.if-is_empty.false)))
