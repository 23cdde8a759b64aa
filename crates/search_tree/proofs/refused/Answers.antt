use mathlib.Core.Path.{sym, ap, ◌∙◌}
use Rattle.search_call.specs.Call.{refused}
use Rattle.search_call.proofs.Calls.{refused-is}
use Rattle.search_tree.specs.Found.{found_of}
use Rattle.search_tree.proofs.refused.Goals as goal

pub returns : goal.returns
unfolding found_of
returns c = sym (refused-is _) ∙ ap refused c.number.ensures
