use Rattle.adjacency.specs.Adjacency.{count_in}
use mathlib.Core.Path.{refl, sym, ◌∙◌}
use Prim.Native.Nat.{◌<◌}
use native.Mathlib.Omega.{arith}
use Rattle.adjacency.proofs.Linking.{few-junctions}
use Rattle.road.proofs.Theorems.{row-least}
use Rattle.road.proofs.Stepping.{walking-sizes, walking_start, finished}
use Rattle.road.proofs.walk.distances.Goals as goal

pub start-requires : goal.start-requires
start-requires c =
    let p = c.requires in
    (record { distances = p.1; marks = refl; words = refl }, omega (arith, p.2, few-junctions p.0.adjacent))

pub junctions-end-requires : goal.junctions-end-requires
junctions-end-requires c = c.requires.0.adjacent.size

pub loop-init : goal.loop-init
loop-init c =
    let w = walking_start c.args.adj.now c.start.ensures in
    let z = walking-sizes _ _ _ _ _ _ c.requires.2 w c.requires.0 in
    (z.distances, z.marks, z.words, λ source below v. v)

pub round-requires : goal.round-requires
round-requires c =
    let l = c.loop in
    let w = walking_start c.args.adj.now c.start.ensures in
    let less : l.counter < count_in c.args.adj.now =
    omega (arith, c.junctions-end.ensures, c.loop-test.true) in
    (c.requires.0, record { source = _; round = _; below = c.requires.2; unfinished = less; walking = l.invariant.3 _ c.requires.2 w })

pub loop-preserved : goal.loop-preserved
loop-preserved c =
    let l = c.loop in
    let on = c.round.ensures in
    let w = walking_start c.args.adj.now c.start.ensures in
    let z = walking-sizes _ _ _ _ _ _ c.requires.2 (on _ _ c.requires.2 (l.invariant.3 _ c.requires.2 w)) c.requires.0 in
    (z.distances, z.marks, z.words, λ source below v. on source _ below (l.invariant.3 source below v))

pub shape_of-row : goal.shape_of-row
shape_of-row c =
    c.loop.invariant.0 ∙ sym c.requires.1

pub returns : goal.returns
returns c =
    let w = walking_start c.args.adj.now c.start.ensures in
    let row = finished _ _ _ _ _ _ (omega (arith, c.junctions-end.ensures)) (c.loop.invariant.3 _ c.requires.2 w) in record {
      row = row;
      least = λ b p ad. row-least b p _ _ (omega (arith, ad.count, c.requires.2)) (row b ad);
    }
