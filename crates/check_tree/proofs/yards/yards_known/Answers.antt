use Rattle.std.proofs.Common.{refl, ◌∙◌, rules}
use Rattle.yard.specs.Yards.{yards_of}
use Rattle.tree_layout.proofs.Accepting.{layout-facts}
use Rattle.tree_layout.proofs.RegionRecords.{layout_record}
use Rattle.check_tree.specs.code.Known.{known_region}
use Rattle.check_tree.proofs.Knowing.{tree_known}
use Rattle.check_tree.proofs.yards.yards_known.Goals as goal

pub every_region-requires : goal.every_region-requires
every_region-requires c =
    let p = c.requires in
    (p.1, λ k h. let stands = layout_record _ (layout-facts _ p.1) k h _ refl in search rules)

pub returns : goal.returns
returns c = c.every_region.ensures (known_region (yards_of c.args.yard.now)) (λ k h r g. search rules) ∙ tree_known _ _
