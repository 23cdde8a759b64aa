use Rattle.std.proofs.Common.{refl, ◌∙◌, rules}
use Rattle.road.specs.Dijkstra.{dist}
use Rattle.yard.specs.Yards.{yards_of}
use Rattle.tree_layout.proofs.Accepting.{layout-facts}
use Rattle.tree_layout.proofs.Accessing.{its_landmarks}
use Rattle.check_rules.specs.Truth.{true_beside_region}
use Rattle.check_distances.proofs.Regions.{region_marked, region_held, tree-test}
use Rattle.check_distances.proofs.numbers_true.Goals as goal

pub header-requires : goal.header-requires
header-requires c = (layout-facts _ c.requires.regions).opens.headed

pub every_region-requires : goal.every_region-requires
every_region-requires c =
    let p = c.requires in (
      p.regions,
      λ k h.
          let marked = region_marked _ _ _ p k h _ refl in
          let held = region_held _ _ _ p k h _ refl in
          let yards = p.yards in
          let m = its_landmarks _ _ c.header.ensures in
          search rules,
    )

pub returns : goal.returns
returns c =
    λ road a. c.every_region.ensures (true_beside_region (dist road) (yards_of c.args.yard.now)) (λ k h r g.
    let m = its_landmarks _ _ c.header.ensures in search rules)
    ∙ tree-test _ _ _
