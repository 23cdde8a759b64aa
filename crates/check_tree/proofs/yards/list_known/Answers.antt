use Rattle.std.proofs.Common.{rules}
use Rattle.check_tree.specs.code.Known.{known_element, known_list}
use Rattle.check_tree.proofs.yards.list_known.Goals as goal

pub returns : goal.returns
unfolding known_list known_element
returns c = c.every_element.ensures (known_element _) (λ e r g. search rules)
