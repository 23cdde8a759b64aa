use Rattle.std.proofs.Common.{ltb, rules, tests, sym, ◌∙◌, take}
use Rattle.std.proofs.lemmas.Iterator.{YieldsList-from_slice}
use Rattle.std.proofs.lemmas.Iterator.Search.{all_from_yields_List}
use Rattle.road.specs.Dijkstra.{far}
use Rattle.road.proofs.Reaching.{reached-all}
use Rattle.road.proofs.all_reached.Goals as goal

pub returns : goal.returns
returns c =
    let ds = c.args.ds.now in
    let n = c.args.n in
    all_from_yields_List (λ d. ltb d far) _ _ _ c.all.ensures.ran (YieldsList-from_slice (take n ds) cc) (λ x b q k. search (rules, tests))
    ∙ sym (reached-all ds n c.requires)
