use Rattle.search_bounds.proofs.Bounding.{place_read, place-there, weight_read}
use Rattle.search_bounds.proofs.picks.mark_weight.Goals as goal

pub weight-requires : goal.weight-requires
weight-requires c =
    (c.requires.2, c.requires.3, place-there _ _ c.requires.0 _ c.requires.1 _ c.landmark-k.ensures)

pub returns : goal.returns
returns c =
    weight_read _ _ _ _ _ _ _ (place_read _ _ c.requires.0 _ c.requires.1 _ c.landmark-k.ensures) c.weight.ensures
