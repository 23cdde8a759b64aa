use mathlib.Core.Path.{refl}
use Rattle.tree.proofs.Fielding.{laid-header, laid-room, laid_fields}
use Rattle.tree.proofs.regions.fields.Goals as goal

pub fields-requires : goal.fields-requires
fields-requires c =
    (laid-header _ _ c.requires.0, laid-room _ _ c.requires.0 _ c.requires.1)

pub returns : goal.returns
returns c =
    laid_fields _ _ c.requires.0 _ c.requires.1 _ _ refl c.fields.ensures
