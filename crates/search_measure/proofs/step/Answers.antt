use mathlib.Core.Path.{refl}
use native.Mathlib.Omega.{arith}
use Rattle.adjacency.proofs.Linking.{few-junctions}
use Rattle.search_measure.proofs.Finding.{ArcFacts, chain_starts, told-short, chain_facts, chain_hit, chain_miss}
use Rattle.search_measure.proofs.step.Goals.{At-loop-w}
use Rattle.search_measure.proofs.step.Goals as goal

-- what is known of the arc that the loop has come to
facts : (c : At-loop-w)
    → ArcFacts c.requires.0.steered.road c.args.adj.now c.loop-w.a
facts c =
    let i = c.requires.0 in
    let st = i.steered.steers in
    chain_facts st _ i.inside i.apart _ (c.loop-w.invariant.1 _ _ st i.apart)

pub bounds-row-v : goal.bounds-row-v
bounds-row-v c =
    let i = c.requires.0 in
    omega (arith, i.inside, few-junctions i.steered.steers.adjacent, c.requires.1)

pub head-a-requires : goal.head-a-requires
head-a-requires c =
    let i = c.requires.0 in
    let ad = i.steered.steers.adjacent in
    (ad.size, omega (arith, i.inside, few-junctions ad))

pub loop-w-init : goal.loop-w-init
loop-w-init c = (refl, λ road crew st z. chain_starts st _ c.requires.0.inside _ c.head-a.ensures)

pub to-w-requires : goal.to-w-requires
to-w-requires c = (c.requires.0.steered.steers.adjacent.size, (facts c).some, (facts c).few)

pub cost-s-requires : goal.cost-s-requires
cost-s-requires c = (c.requires.0.steered.steers.adjacent.size, (facts (goal.at.cost-s-requires c).At-loop-w).some, (facts (goal.at.cost-s-requires c).At-loop-w).few)

pub next-a-requires : goal.next-a-requires
next-a-requires c =
    let f = facts (goal.at.next-a-requires c).At-loop-w in
    (c.requires.0.steered.steers.adjacent.size, f.some, f.few)

pub bounds-row-w : goal.bounds-row-w
bounds-row-w c =
    omega (arith, (facts (goal.at.bounds-row-w c).At-loop-w).small, c.to-w.ensures, c.requires.1)

pub overflow_add-row : goal.overflow_add-row
overflow_add-row c =
    let i = c.requires.0 in
    let t = c.to-w.ensures in
    let w = c.to-w.result.number in
    omega (arith, (facts (goal.at.overflow_add-row c).At-loop-w).cheap, c.cost-s.ensures, told-short i.steered.steers _ i.inside w (omega (arith, (facts (goal.at.overflow_add-row c).At-loop-w).inside, t)))

pub returns-then-row-w : goal.returns-then-row-w
returns-then-row-w c =
    let i = c.requires.0 in
    λ road crew st z.
    chain_hit st _ i.inside z _ (c.loop-w.invariant.1 road crew st z) _ _ c.to-w.ensures
    c.cost-s.ensures (omega (arith, c.if-row-w.true, c.loop-w.invariant.0))

pub loop-w-smaller : goal.loop-w-smaller
loop-w-smaller c = omega (arith, (facts (goal.at.loop-w-smaller c).At-loop-w).falls, c.next-a.ensures)

pub loop-w-preserved : goal.loop-w-preserved
loop-w-preserved c =
    let i = c.requires.0 in (
      c.loop-w.invariant.0,
      λ road crew st z.
          chain_miss st _ i.inside z _ (c.loop-w.invariant.1 road crew st z) _ _ c.to-w.ensures
          c.cost-s.ensures (λ e. omega (arith, e, c.if-row-w.false, c.loop-w.invariant.0)) _ c.next-a.ensures,
    )
