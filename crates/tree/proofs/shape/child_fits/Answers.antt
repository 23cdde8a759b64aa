use mathlib.Core.Path.{sym}
use Rattle.tree.proofs.Descending.{fits_low, fits-high, fits-left}
use Rattle.tree.proofs.shape.child_fits.Goals as goal

pub returns-then-c-low : goal.returns-then-c-low
returns-then-c-low c = sym (fits_low _ _ _ _ _ _ c.if-c-low.true)

pub returns-then-high-c : goal.returns-then-high-c
returns-then-high-c c = sym (fits-high _ _ _ _ _ _ c.if-c-low.false c.if-high-c.true)

pub returns : goal.returns
returns c = sym (fits-left _ _ _ _ _ _ c.if-c-low.false c.if-high-c.false)
