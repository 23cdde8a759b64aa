use mathlib.Core.Path.{sym, ◌∙◌}
use native.Mathlib.Omega.{arith}
use Rattle.road.proofs.Following.{ArcFacts, chain_starts, chain_facts, chain_goes_on, chain_ends}
use Rattle.road.proofs.walk.relax.Goals.{In-loop-a}
use Rattle.road.proofs.walk.relax.Goals as goal

-- what is known of the arc that the loop has come to
facts : (c : In-loop-a) → ArcFacts c.args.adj.now c.loop-a.a
facts c =
    let i = c.requires.0 in
    chain_facts _ _ _ _ _ _ _ (c.loop-a.invariant i.book i.adjacent) c.loop-a-test.true

pub head-a-requires : goal.head-a-requires
head-a-requires c = (c.requires.0.adjacent.size, c.requires.3)

pub loop-a-init : goal.loop-a-init
loop-a-init c =
    let p = c.requires in
    λ b ad. chain_starts b _ _ _ _ _ _ ad p.3 c.head-a.ensures p.1 p.2 p.5

pub to-v-requires : goal.to-v-requires
to-v-requires c = (c.requires.0.adjacent.size, (facts c).some, (facts c).few)

pub cost-s-requires : goal.cost-s-requires
cost-s-requires c = (c.requires.0.adjacent.size, (facts (goal.at.cost-s-requires c).In-loop-a).some, (facts (goal.at.cost-s-requires c).In-loop-a).few)

pub next-a-requires : goal.next-a-requires
next-a-requires c =
    let i = c.requires.0 in
    let f = facts (goal.at.next-a-requires c).In-loop-a in
    (i.adjacent.size, f.some, f.few)

pub overflow_add-d : goal.overflow_add-d
overflow_add-d c = omega (arith, (facts (goal.at.overflow_add-d c).In-loop-a).cheap, c.cost-s.ensures)

pub shorten-requires : goal.shorten-requires
shorten-requires c =
    let i = c.requires.0 in
    let ch = c.loop-a.invariant i.book i.adjacent in
    let f = facts (goal.at.shorten-requires c).In-loop-a in
    (ch.distances, ch.words, omega (arith, f.inside, c.to-v.ensures), ch.above)

pub loop-a-smaller : goal.loop-a-smaller
loop-a-smaller c =
    let f = facts (goal.at.loop-a-smaller c).In-loop-a in
    omega (arith, f.falls, c.next-a.ensures)

pub loop-a-preserved : goal.loop-a-preserved
loop-a-preserved c =
    let t = c.loop-a-test.true in
    let s = c.shorten.ensures in
    λ b ad. chain_goes_on _ _ _ _ _ _ _ (c.loop-a.invariant b ad) t _ _ _ _ c.to-v.ensures c.cost-s.ensures c.next-a.ensures s

pub shape_of-row : goal.shape_of-row
shape_of-row c =
    let p = c.requires in
    (c.loop-a.invariant p.0.book p.0.adjacent).distances ∙ sym p.1

pub shape_of-queue : goal.shape_of-queue
shape_of-queue c =
    let p = c.requires in
    (c.loop-a.invariant p.0.book p.0.adjacent).words ∙ sym p.2

pub returns : goal.returns
returns c = λ b ad. chain_ends _ _ _ _ _ _ _ (c.loop-a.invariant b ad) c.loop-a-test.false
