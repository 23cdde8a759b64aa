use native.Mathlib.Omega.{arith}
use lib.ListN.{length-set}
use Rattle.search_leaf.proofs.Numbering.{element-fits}
use Rattle.search_leaf.proofs.Filling.{yard-near}
use Rattle.search_leaf.proofs.Nexts.{next-inside, leaving-is, none-queued, word-is, queued-is}
use Rattle.search_leaf.proofs.queueing.queue_next.Goals as goal

pub bounds-words-r : goal.bounds-words-r
bounds-words-r c = omega (arith, c.requires.4, c.requires.5)

pub shape_of-words-in_default : goal.shape_of-words-in_default
shape_of-words-in_default c = simp length-set

pub returns-in_default : goal.returns-in_default
returns-in_default c = none-queued _ _ _ _ _ c.args.words.now c.args.values.now _ c.in_default.ensures.1

pub element-requires : goal.element-requires
element-requires c =
    element-fits _ c.args.list.now _ _ (next-inside _ _ _ _ _ _ c.requires.0 c.in-Some.ensures.0) c.requires.1 c.requires.2

pub bounds-values-bound_at : goal.bounds-values-bound_at
bounds-values-bound_at c =
    let y = yard-near _ _ _ _ _ _ (next-inside _ _ _ _ _ _ c.requires.0 c.in-Some.ensures.0) c.element.ensures c.requires.3 in
    omega (arith, c.bound_at.ensures, y, c.requires.6, c.requires.7)

pub bounds-words-gone_place : goal.bounds-words-gone_place
bounds-words-gone_place c =
    let y = yard-near _ _ _ _ _ _ (next-inside _ _ _ _ _ _ c.requires.0 c.in-Some.ensures.0) c.element.ensures c.requires.3 in
    omega (arith, c.requires.4, c.gone_at-gone_place.ensures, y)

pub offset_bounds-words-key_place : goal.offset_bounds-words-key_place
offset_bounds-words-key_place c =
    let y = yard-near _ _ _ _ _ _ (next-inside _ _ _ _ _ _ c.requires.0 c.in-Some.ensures.0) c.element.ensures c.requires.3 in
    record { fits = omega (arith, c.key_at-key_place.ensures, y, c.requires.4, c.ranges, c.well_formed) }

pub bounds-words-key_place : goal.bounds-words-key_place
bounds-words-key_place c =
    let y = yard-near _ _ _ _ _ _ (next-inside _ _ _ _ _ _ c.requires.0 c.in-Some.ensures.0) c.element.ensures c.requires.3 in
    simp length-set (omega (arith, c.requires.4, c.key_at-key_place.ensures, y))

pub bounds-words-r-2 : goal.bounds-words-r-2
bounds-words-r-2 c =
    simp length-set (omega (arith, c.requires.4, c.requires.5))

pub returns : goal.returns
returns c =
    let first = c.in-Some.ensures in
    let after = c.next_element-after in
    let w = c.args.words.now in
    queued-is c.args.h.regions c.args.h.junctions _ _ _ w c.args.values.now c.args.r.number
    (omega (arith, first.1, first.2)) _
    (leaving-is _ _ _ _ _ w c.args.values.now c.requires.0 _ first.0 _ c.element.ensures)
    _ _ _ _ c.first_at.ensures c.bound_at.ensures c.gone_at-gone_place.ensures c.key_at-key_place.ensures _
    (rw c.from-bound.ensures at c.max.ensures)
    after.result _ (word-is _ _ _ _ _ after.ensures) c.again_key.ensures
