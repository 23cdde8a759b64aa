use mathlib.Core.Path.{sym}
use mathlib.Core.List.{List}
use Prim.Native.Nat.{ℕ}
use native.Mathlib.Omega.{arith}
use Rattle.road_layout.specs.Road.{roads}
use Rattle.adjacency.specs.Adjacency.{Adjacency}
use Rattle.adjacency.proofs.Chains.{ChainStep, chain_step, chain_done}
use Rattle.build_rules.specs.Cut.{outside, is_border}
use Rattle.build_records.proofs.Scanning.{border_begin, border_low, border_high, border_on}
use Rattle.build_records.proofs.borders.is_border.Goals.{In-loop-x, then-u-a-via-then-u-a, then-u-a-via-else-u-a+then-a-s}
use Rattle.build_records.proofs.borders.is_border.Goals as goal

-- what is known of the arc that the loop has come to, for any book
facts : (c : In-loop-x) (road : List ℕ) → Adjacency road c.args.adj.now
    → ChainStep (outside c.args.a c.args.s)
    c.args.v c.args.adj.now (is_border (roads road)
    c.args.a c.args.s c.args.v)
    c.loop-x.x
facts c road a = chain_step _ _ _ _ _ (c.loop-x.invariant road a) c.loop-x-test.true

-- and of the one that there is
known : (c : In-loop-x) → ChainStep (outside c.args.a c.args.s)
    c.args.v c.args.adj.now
    (is_border (roads c.requires.0.book) c.args.a
    c.args.s c.args.v) c.loop-x.x
known c = facts c c.requires.0.book c.requires.0.adjacent

pub loop-x-init : goal.loop-x-init
loop-x-init c = λ road a. border_begin road _ _ _ _ _ a c.requires.1 c.head-x.ensures

pub to-u-requires : goal.to-u-requires
to-u-requires c = (c.requires.0.adjacent.size, (known c).some, (known c).inside)

pub returns-then-u-a : goal.returns-then-u-a
returns-then-u-a c = λ road a.
    let stop = (facts (goal.at.returns-then-u-a c).In-loop-x road a).stop in
    elim c.then-u-a.branch [
      | then-u-a-via-then-u-a w ↦ sym (stop (border_low _ _ _ _ c.to-u.ensures (omega (arith, w.if-u-a.true))))
      | then-u-a-via-else-u-a+then-a-s w ↦ sym (stop (border_high _ _ _ _ c.to-u.ensures (omega (arith, w.if-a-s.true))))
    ]

pub next-x-requires : goal.next-x-requires
next-x-requires c = (
  c.requires.0.adjacent.size,
  (known (goal.at.next-x-requires c).In-loop-x).some,
  (known
      (goal.at.next-x-requires c).In-loop-x).inside,
)

pub loop-x-smaller : goal.loop-x-smaller
loop-x-smaller c = omega (arith, (known (goal.at.loop-x-smaller c).In-loop-x).falls, c.next-x.ensures)

pub loop-x-preserved : goal.loop-x-preserved
loop-x-preserved c =
    λ road a. border_on _ _ _ _ _ _ _ _ (facts (goal.at.loop-x-preserved c).In-loop-x road a) c.to-u.ensures
    (omega (arith, c.if-u-a.false)) (omega (arith, c.if-a-s.false)) c.next-x.ensures

pub returns : goal.returns
returns c = λ road a. sym (chain_done _ _ _ _ _ (c.loop-x.invariant road a) c.loop-x-test.false)
