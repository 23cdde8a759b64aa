use mathlib.Core.Path.{sym}
use Rattle.kinds.proofs.Reading.{size_none, size-one}
use Rattle.kinds.proofs.size.Goals as goal

pub returns-then-version-eq1 : goal.returns-then-version-eq1
returns-then-version-eq1 c = sym (size_none _ c.if-version-eq1.true)

pub returns : goal.returns
returns c = sym (size-one _ c.if-version-eq1.false)
