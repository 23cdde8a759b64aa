use Rattle.client.proofs.Calls.{answered, in_turn_lem}
use Rattle.client.proofs.search_twice.Goals as goal

pub returns : goal.returns
returns c =
    let e = c.finder_search-first.ensures in
    let f = c.finder_within-second.ensures in
    in_turn_lem _ _ _ _ _ _ _ (answered _ _ _ _ _ _ _ _ _ e.found e.work e.results e.bytes.1)
    (answered _ _ _ _ _ _ _ _ _ f.found f.work f.results f.bytes.1)
