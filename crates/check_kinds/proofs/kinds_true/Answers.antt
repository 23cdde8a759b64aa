use Rattle.std.proofs.Common.{refl, ◌∙◌, rules}
use Rattle.yard.specs.Yards.{yards_of, kind_of}
use Rattle.tree_layout.proofs.Accepting.{layout-facts}
use Rattle.tree_layout.proofs.Accessing.{its_landmarks}
use Rattle.tree_layout.proofs.RegionRecords.{layout_record}
use Rattle.check_rules.specs.Truth.{kinds_beside_region}
use Rattle.check_kinds.proofs.Regions.{tree-test}
use Rattle.check_kinds.proofs.kinds_true.Goals as goal

pub header-requires : goal.header-requires
header-requires c = (layout-facts _ c.requires.1).opens.headed

pub every_region-requires : goal.every_region-requires
every_region-requires c =
    let p = c.requires in (
      p.1,
      λ k h.
          let stands = layout_record _ (layout-facts _ p.1) k h _ refl in
          let m = its_landmarks _ _ c.header.ensures in
          search rules,
    )

pub returns : goal.returns
returns c =
    c.every_region.ensures (kinds_beside_region (kind_of c.args.yard.now) (yards_of c.args.yard.now)) (λ k h r g.
    let m = its_landmarks _ _ c.header.ensures in search rules)
    ∙ tree-test _ _ _
