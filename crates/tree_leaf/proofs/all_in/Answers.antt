use Rattle.std.proofs.Common.{rules}
use Rattle.tree_leaf.specs.code.Members.{is_member}
use Rattle.tree_leaf.proofs.all_in.Goals as goal

pub returns : goal.returns
unfolding is_member
returns c = c.every_element.ensures (is_member _) (λ e r g. search rules)
