use mathlib.Core.Path.{sym, ◌∙◌}
use native.Mathlib.Omega.{arith}
use Rattle.search_leaf.proofs.Scanning.{mark_word, other_word}
use Rattle.search_leaf.proofs.elements.f_word.Goals as goal

pub returns-then-x-eq-UNWANTED : goal.returns-then-x-eq-UNWANTED
returns-then-x-eq-UNWANTED c = sym (mark_word _ (omega (arith, c.if-x-eq-UNWANTED.true)))

pub returns : goal.returns
returns c = c.from.ensures ∙ sym (other_word _ (λ e. omega (arith, e, c.if-x-eq-UNWANTED.false)))
