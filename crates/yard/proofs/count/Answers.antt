use mathlib.Core.Path.{◌∙◌}
use Rattle.yard.proofs.YardLayout.{layout, read_count}
use Rattle.yard.proofs.count.Goals as goal

pub u16_at-requires : goal.u16_at-requires
u16_at-requires c = (layout _ c.requires).opening.headed

pub returns : goal.returns
returns c = c.u16_at.ensures ∙ read_count _
