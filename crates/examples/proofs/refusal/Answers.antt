use mathlib.Core.Path.{sym, ap, ◌∙◌}
use Rattle.search_call.specs.Call.{Found}
use Rattle.search_call.proofs.Calls.{found_number}
use Rattle.search_tree.proofs.Fields.{returned}
use Rattle.examples.proofs.refusal.Goals as goal

pub returns : goal.returns
returns c =
    let s = c.search-found in
    ap (λ (f : Found). f.refusal) (sym (returned s.result) ∙ s.ensures.found) ∙ found_number _ _ _ _ _ _
