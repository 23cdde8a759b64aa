use Rattle.std.proofs.Common.{◌≡◌, ◌+◌, ◌∙◌, take, ltb, count_by, rules}
use Rattle.tree.proofs.Filling.{level-counted}
use Rattle.tree.proofs.regions.level.Goals as goal

pub returns : goal.returns
returns c =
    let e : c.count.result ≡ count_by (λ x. ltb c.args.r.number x) (take (c.args.r.number + 1) c.args.ends.now) = search rules in
    e ∙ level-counted _ _ c.requires
