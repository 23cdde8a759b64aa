use mathlib.Core.Path.{◌≡◌, refl, sym, ◌∙◌}
use Prim.Native.Nat.{◌+◌, ◌/◌}
use native.Mathlib.Omega.{arith}
use lib.ListN.{length-set}
use lib.Seq.{get_or-set_same}
use Rattle.tournament.specs.code.Tournament.{lesser_of, put_leaf}
use Rattle.tournament.proofs.Mending.{mended, all_mended, beside}
use Rattle.tournament.proofs.put.Goals as goal

pub loop-init : goal.loop-init
loop-init c =
    let a = c.args in
    (omega arith, simp length-set (omega arith), sym (get_or-set_same a.tree.now (1024 + a.v) a.x 0 (omega arith)), refl)

pub least_beside-requires : goal.least_beside-requires
least_beside-requires c =
    let l = c.loop in
    (l.invariant.1, l.invariant.0)

pub loop-preserved : goal.loop-preserved
loop-preserved c =
    let l = c.loop in
    let r = c.min-word.result in
    let e : r ≡ lesser_of l.tree (l.i / 4) = beside l.tree l.i _ _ r l.invariant.2 c.least_beside.ensures c.min-word.ensures in (
      omega arith,
      simp length-set (omega arith),
      sym (get_or-set_same l.tree (l.i / 4) r 0 (omega arith)),
      mended 5 l.counter l.tree l.i r (omega arith) e ∙ l.invariant.3,
    )

pub returns : goal.returns
unfolding put_leaf
returns c =
    let l = c.loop in
    sym (all_mended 5 l.counter l.tree l.i (omega arith)) ∙ l.invariant.3
