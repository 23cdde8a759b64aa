use mathlib.Core.Path.{◌∙◌, ap}
use lib.ListN.{replicate}
use Rattle.tournament.proofs.clear.Goals as goal

pub returns : goal.returns
returns c = c.fill.ensures.after (λ y e. e) ∙ ap (λ n. replicate n c.args.x) c.requires
