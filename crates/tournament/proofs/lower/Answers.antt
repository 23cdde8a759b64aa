use mathlib.Core.Path.{refl, sym, ◌∙◌}
use native.Mathlib.Omega.{arith}
use lib.ListN.{length-set}
use Rattle.tournament.proofs.Lowering.{one_lowered, all_lowered, lowered_put}
use Rattle.tournament.proofs.lower.Goals as goal

pub loop-init : goal.loop-init
loop-init c = (omega arith, simp length-set (omega arith), refl)

pub loop-preserved : goal.loop-preserved
loop-preserved c =
    let l = c.loop in (
      omega arith,
      simp length-set (omega arith),
      one_lowered 5 l.counter l.tree l.i _ _ (omega arith) c.min.ensures ∙ l.invariant.2,
    )

pub returns : goal.returns
returns c =
    let l = c.loop in
    let p = c.requires in
    sym (all_lowered 5 l.counter l.tree l.i _ (omega arith)) ∙ l.invariant.2 ∙ lowered_put _ _ _ p.1 p.2 p.3
