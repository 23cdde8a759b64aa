use Rattle.listing.proofs.Fitting.{room}
use Rattle.listing.proofs.calls.search.Goals as goal

pub finder_search-requires : goal.finder_search-requires
finder_search-requires c = tt

pub finder_within-requires : goal.finder_within-requires
finder_within-requires c = tt

pub returns-in-Nearest : goal.returns-in-Nearest
returns-in-Nearest c =
    let e = c.finder_search.ensures in
    rw c.in-Nearest.is (record { found = e.found; results = e.results; room = room _ _ _ _ _ _ _ e.bytes.1 e.found })

pub returns-in-InDrive : goal.returns-in-InDrive
returns-in-InDrive c =
    let e = c.finder_within.ensures in
    rw c.in-InDrive.is (record { found = e.found; results = e.results; room = room _ _ _ _ _ _ _ e.bytes.1 e.found })
