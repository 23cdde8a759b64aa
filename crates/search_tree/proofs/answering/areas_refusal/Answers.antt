use mathlib.Core.Path.{sym}
use native.Mathlib.Omega.{arith}
use Rattle.search_call.proofs.Refusing.{short-work, short-results, long_enough}
use Rattle.search_tree.proofs.answering.areas_refusal.Goals as goal

pub returns-then-work-lt-WORDS : goal.returns-then-work-lt-WORDS
returns-then-work-lt-WORDS c = sym (short-work _ _ _ c.if-work-lt-WORDS.true)

pub returns-then-results-yards : goal.returns-then-results-yards
returns-then-results-yards c =
    let a = c.args in
    sym (short-results a.yards a.work a.results c.if-work-lt-WORDS.false (omega (arith, c.if-results-yards.true)))

pub returns : goal.returns
returns c =
    let a = c.args in
    sym (long_enough a.yards a.work a.results c.if-work-lt-WORDS.false (omega (arith, c.if-results-yards.false)))
