use Rattle.std.proofs.Common.{◌≡◌, ◌&&◌, leb, ltb, sym, ◌∙◌, rules}
use Rattle.check_kinds.proofs.Joining.{join_out, join_in}
use Rattle.check_kinds.proofs.joined.Goals.{After-contains}
use Rattle.check_kinds.proofs.joined.Goals as goal

-- whether the yard is in the range
in_range : (c : After-contains) → c.contains.result ≡ (leb c.args.f.first.number c.yard_at-y.result.number && ltb c.yard_at-y.result.number c.args.f.after)
in_range c = search rules

pub returns-then-not-contains : goal.returns-then-not-contains
returns-then-not-contains c =
    let p = c.requires in
    join_out _ p.0 _ _ _ _ _ p.1 c.yard_at-y.ensures (sym (in_range (goal.at.returns-then-not-contains c).After-contains) ∙ c.if-not-contains.true)

pub returns : goal.returns
returns c =
    let p = c.requires in
    join_in _ p.0 _ _ _ _ _ p.1 c.yard_at-y.ensures (sym (in_range (goal.at.returns c).After-contains) ∙ c.if-not-contains.false) _ _
    c.kinds_at.ensures c.join.ensures
