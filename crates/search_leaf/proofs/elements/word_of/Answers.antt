use native.Mathlib.Omega.{arith}
use Rattle.search_leaf.proofs.Scanning.{word-gone, word-there}
use Rattle.search_leaf.proofs.elements.word_of.Goals as goal

pub returns-then-words-g-eq0 : goal.returns-then-words-g-eq0
returns-then-words-g-eq0 c =
    word-gone _ _ _ _ _ c.requires.1 c.requires.0 _ c.gone_at-g.ensures c.if-words-g-eq0.true

pub bounds-values-i : goal.bounds-values-i
bounds-values-i c = omega (arith, c.f_at-i.ensures, c.requires.0, c.requires.2, c.requires.3)

pub returns : goal.returns
returns c =
    word-there _ _ _ c.args.values.now _ c.requires.1 c.requires.0 _ c.gone_at-g.ensures c.if-words-g-eq0.false _ (rw (← c.f_at-i.ensures) c.f_word.ensures)
