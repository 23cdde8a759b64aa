use mathlib.Core.Path.{refl}
use Rattle.search_bounds.proofs.Bounding.{chosen_moved}
use Rattle.search_bounds.proofs.Numbered.{marks_of, record_of}
use Rattle.search_bounds.proofs.picks.choose_mark.Goals as goal

pub pick_at-requires : goal.pick_at-requires
pick_at-requires c =
    (record_of _ _ c.requires.0 _ c.requires.1 _ refl, c.requires.2, c.requires.3)

pub returns : goal.returns
returns c =
    chosen_moved _ _ _ _ _ _ (marks_of _ _ c.requires.0 _ c.requires.1 _ refl) c.pick_at.ensures
