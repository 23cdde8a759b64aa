use mathlib.Core.Path.{refl}
use Rattle.tree_layout.proofs.RecordFields.{span-ends}
use Rattle.tree_layout.proofs.landmarks.of_span.Goals as goal

pub returns : goal.returns
returns c = span-ends _ _ _ _ _ c.u16_at.ensures c.u32_at.ensures c.u32_at-2.ensures _ refl
