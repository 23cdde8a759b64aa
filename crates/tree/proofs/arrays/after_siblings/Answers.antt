use borrow.Author.Rules.{rules}
use mathlib.Core.Path.{◌≡◌, sym}
use Prim.Native.Nat.{◌<◌}
use native.Mathlib.Omega.{arith}
use lib.ListN.{length, get_or}
use Rattle.tree.proofs.Filling.{hops-none, hops-next}
use Rattle.tree.proofs.arrays.after_siblings.Goals as goal

pub loop-init : goal.loop-init
loop-init c = sym (hops-none _ _)

pub offset_bounds-ends-j : goal.offset_bounds-ends-j
offset_bounds-ends-j c =
    let l = c.loop in
    let h : l.j < length c.args.ends.now = rw l.invariant (c.requires l.counter c.loop-test.true) in
    search rules

pub bounds-ends-j : goal.bounds-ends-j
bounds-ends-j c =
    let l = c.loop in
    rw l.invariant (c.requires l.counter c.loop-test.true)

pub loop-preserved : goal.loop-preserved
loop-preserved c =
    let l = c.loop in
    rw l.invariant (hops-next (λ i. get_or c.args.ends.now i 0) l.counter c.args.start)

pub returns : goal.returns
returns c =
    let e : c.loop.counter ≡ c.args.n = omega arith in
    rw (← e) c.loop.invariant
