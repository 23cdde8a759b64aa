use mathlib.Core.Path.{sym}
use Rattle.build_rules.proofs.Parts.{cut-is}
use Rattle.build_cuts.proofs.ranges.cut_at.Goals as goal

pub returns : goal.returns
returns c = sym (cut-is _ _ _)
