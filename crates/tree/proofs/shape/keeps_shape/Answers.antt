use Rattle.tree_layout.proofs.Accessing.{its_yards}
use Rattle.tree.proofs.Fielding.{laid-header}
use Rattle.tree.proofs.Recursing.{not-one, not-all, takes_all}
use Rattle.tree.proofs.shape.keeps_shape.Goals as goal

pub returns-in_default : goal.returns-in_default
returns-in_default c =
    not-one _ _ c.requires c.in_default.ensures

pub returns-then-next-places : goal.returns-then-next-places
returns-then-next-places c =
    not-all _ _ c.requires _ c.in-Some.ensures c.if-next-places.true

pub header-h-requires : goal.header-h-requires
header-h-requires c = laid-header _ _ c.requires

pub returns : goal.returns
returns c =
    takes_all _ _ c.requires _ c.in-Some.ensures c.if-next-places.false _
    c.fields-f.ensures _ (its_yards _ _ c.header-h.ensures)
