use Rattle.std.proofs.Common.{rules}
use Rattle.tree_layout.proofs.EachPart.{record-inside}
use Rattle.tree_layout.proofs.values_ok.Goals as goal

pub every_record-requires : goal.every_record-requires
every_record-requires c = (c.requires.0, c.requires.1, c.requires.2, λ k h. let i = record-inside _ _ _ k c.requires.2 h in search rules)

pub returns : goal.returns
returns c = c.every_record.ensures _ (λ k h r g. search rules)
