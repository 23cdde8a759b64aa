use Rattle.std.proofs.Common.{rules}
use Rattle.check_rules.specs.Truth.{kinds_element}
use Rattle.check_rules.proofs.Testing.{kinds-element-test}
use Rattle.check_kinds.proofs.list_true.Goals as goal

pub returns : goal.returns
returns c = c.every_element.ensures (kinds_element _) (λ e r g. rw (kinds-element-test _ _) (search rules))
