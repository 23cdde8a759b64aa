use mathlib.Core.Path.{sym, ◌∙◌}
use Prim.Native.Nat.{◌+◌, ◌≤◌}
use native.Mathlib.Omega.{arith}
use lib.ListN.{length}
use Rattle.search_queue.proofs.Picking.{picked_none, picked_first, picked_less, picked_same, picked_all}
use Rattle.search_queue.proofs.Eights.{eight_room, eight_passed}
use Rattle.search_queue.proofs.pick.Goals.{Then-eight_pass}
use Rattle.search_queue.proofs.pick.Goals.{then-w-least, else-w-least}
use Rattle.search_queue.proofs.pick.Goals as goal

-- there are eight words more
room : (c : Then-eight_pass)
    → c.loop-j.j + 8 ≤ length c.args.words.now
room c =
    let l = c.loop-j in
    eight_room _ l.j l.p l.least l.invariant.1 (sym c.eight_pass.ensures ∙ c.if-eight_pass.true)

pub returns-then-words-eq0 : goal.returns-then-words-eq0
returns-then-words-eq0 c = picked_none _ c.if-words-eq0.true

pub loop-j-init : goal.loop-j-init
loop-j-init c = (omega arith, picked_first _ (omega arith))

pub overflow_add-j : goal.overflow_add-j
overflow_add-j c = omega (arith, room c, c.well_formed)

pub loop-j-smaller-then-eight_pass : goal.loop-j-smaller-then-eight_pass
loop-j-smaller-then-eight_pass c = omega (arith, room c)

pub loop-j-preserved-then-eight_pass : goal.loop-j-preserved-then-eight_pass
loop-j-preserved-then-eight_pass c =
    let l = c.loop-j in
    (omega (arith, room c), eight_passed _ l.j l.p l.least l.invariant.1 (sym c.eight_pass.ensures ∙ c.if-eight_pass.true))

pub loop-j-preserved : goal.loop-j-preserved
loop-j-preserved c =
    let l = c.loop-j in
    let h = c.loop-j-test.true in (
      omega arith,
      elim c.if-w-least.branch [ then-w-least w ↦ picked_less _ l.j l.p l.least l.invariant.1 h _ _ w.p-is w.least-is (omega (arith, w.if-w-least.true)) | else-w-least w ↦ picked_same _ l.j l.p l.least l.invariant.1 h _ _ w.p-is w.least-is (omega (arith, w.if-w-least.false)) ],
    )

pub returns : goal.returns
returns c = picked_all _ c.loop-j.j _ c.loop-j.least c.loop-j.invariant.1 (omega arith)
