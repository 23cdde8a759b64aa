use mathlib.Core.Path.{◌∙◌}
use native.Mathlib.Omega.{arith}
use Rattle.tree_layout.proofs.Accepting.{layout-facts}
use Rattle.tree_layout.proofs.EachRegion.{laid-few, laid-records, laid-at, laid-told, laid-all}
use Rattle.tree_layout.proofs.every.every_region.Goals as goal

pub header-h-requires : goal.header-h-requires
header-h-requires g c = (layout-facts _ c.requires.0).opens.headed

pub every_record-requires : goal.every_record-requires
every_record-requires g c =
    let p = c.requires in
    let e = c.header-h.ensures in
    (laid-few _ _ e p.0, omega (arith, (layout-facts _ p.0).opens.headed), laid-records _ _ e p.0, laid-at _ _ e (goal.F-pre g c.args.test) p.1)

pub returns : goal.returns
returns g c =
    let e = c.header-h.ensures in
    λ ok t. c.every_record.ensures ok (laid-told _ _ e (goal.F-post g c.args.test) ok t) ∙ laid-all _ _ e ok
