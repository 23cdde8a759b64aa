use mathlib.Core.Path.{sym, ◌∙◌}
use native.Mathlib.Omega.{arith}
use Rattle.kinds.proofs.Reading.{size-one, kind-any, kind_byte}
use Rattle.kinds.proofs.at.Goals as goal

pub returns-then-version-eq1 : goal.returns-then-version-eq1
returns-then-version-eq1 c = sym (kind-any _ _ _ c.if-version-eq1.true)

pub u8_at-requires : goal.u8_at-requires
u8_at-requires c = omega (arith, c.requires, size-one c.args.version c.if-version-eq1.false)

pub returns : goal.returns
returns c = c.u8_at.ensures ∙ sym (kind_byte _ _ _ c.if-version-eq1.false)
