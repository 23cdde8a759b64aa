use mathlib.Core.Path.{refl}
use Rattle.search_bounds.proofs.Bounding.{bound_moved}
use Rattle.search_bounds.proofs.Numbered.{marks_of, record_of}
use Rattle.search_bounds.proofs.regions.region_bound.Goals as goal

pub record_bound-requires : goal.record_bound-requires
record_bound-requires c =
    (record_of _ _ c.requires.0 _ c.requires.1 _ refl, c.requires.2, c.requires.3)

pub returns : goal.returns
returns c =
    bound_moved _ _ _ _ _ _ _ (marks_of _ _ c.requires.0 _ c.requires.1 _ refl) c.record_bound.ensures
