use Rattle.std.proofs.Common.{rules}
use Rattle.check_distances.specs.code.Row.{element_in, list_in}
use Rattle.check_distances.proofs.lists.list_true.Goals as goal

pub returns : goal.returns
unfolding list_in element_in
returns c = c.every_element.ensures (element_in _) (λ e r g. search rules)
