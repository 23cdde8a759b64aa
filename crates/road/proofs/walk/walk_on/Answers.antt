use mathlib.Core.Path.{refl, ap, ◌∙◌}
use lib.ListN.{length}
use Rattle.tournament.proofs.Laws.{put_length}
use Rattle.road.proofs.Queueing.{relax-from}
use Rattle.road.proofs.walk.walk_on.Goals as goal

pub relax-requires : goal.relax-requires
relax-requires c =
    let p = c.requires in
    let e = c.put.ensures in
    (p.0, p.1.distances, ap length e ∙ put_length _ _ _ ∙ p.1.words, p.2, p.3, rw e p.4)

pub returns : goal.returns
returns c = (
  λ b ad. relax-from _ _ _ _ _ _ _ (c.relax.ensures b ad)
      c.put.ensures,
  refl,
)
