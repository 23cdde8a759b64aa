use mathlib.Core.Path.{refl, sym, ◌∙◌}
use Prim.Native.Nat.{◌+◌}
use native.Mathlib.Omega.{arith}
use lib.ListN.{length, length-set}
use Rattle.book.proofs.Choosing.{true_T, false_T}
use Rattle.tree.proofs.Fielding.{laid-header, laid-few}
use Rattle.tree.proofs.Recursing.{children-is}
use Rattle.search_inner.proofs.Queueing.{counted, queueing_none, queueing_on, queueing_over, queueing_all, Next, next_slot, key_rows}
use Rattle.search_inner.proofs.open_inner.Goals.{In-loop, then-wanted, else-wanted}
use Rattle.search_inner.proofs.open_inner.Goals as goal

-- the next child has a place in each array
next : (c : In-loop)
    →
    Next c.loop.c (length c.args.places.now + c.header-h.result.junctions) c.args.places.now
    c.args.ends.now c.loop.words
next c =
    let l = c.loop in
    next_slot _ _ _ _ _ _ _ _ _ _ _ l.invariant.1 c.loop-test.true _ _ _ _ refl refl c.requires.0 c.requires.1 l.invariant.0

pub header-h-requires : goal.header-h-requires
header-h-requires c = laid-header _ _ c.requires.0

pub overflow_add-firsts : goal.overflow_add-firsts
overflow_add-firsts c =
    record { fits = omega (arith, laid-few _ _ c.requires.0, c.struct_known-2-1) }

pub bounds-words-i : goal.bounds-words-i
bounds-words-i c = let s = c.requires.4 in omega (arith, s.self, s.count)

pub fields-f-requires : goal.fields-f-requires
fields-f-requires c =
    (c.requires.0, c.requires.4.self)

pub loop-init : goal.loop-init
loop-init c = (
  counted _ _ _ _ _ c.header-h.ensures refl refl,
  queueing_none _ _ _ _ _ _ _ _ _ (sym (children-is _ _ _ c.fields-f.ensures)) c.requires.4,
)

pub overflow_cast-child : goal.overflow_cast-child
overflow_cast-child c = record { fits = omega (arith, next c) }

pub wanted-requires : goal.wanted-requires
wanted-requires c = (c.requires.0, (next c).places)

pub key-w-requires : goal.key-w-requires
key-w-requires c =
    let s = c.requires in
    (s.0, (next (goal.at.key-w-requires c).In-loop).places, rw c.loop.invariant.0.rows_are s.2, s.3)

pub offset_bounds-words-c : goal.offset_bounds-words-c
offset_bounds-words-c c = record { fits = omega (arith, next (goal.at.offset_bounds-words-c c).In-loop) }

pub bounds-words-c : goal.bounds-words-c
bounds-words-c c = (next (goal.at.bounds-words-c c).In-loop).word

pub overflow_add-words : goal.overflow_add-words
overflow_add-words c = record { fits = omega (arith, next (goal.at.overflow_add-words c).In-loop) }

pub offset_bounds-words-firsts : goal.offset_bounds-words-firsts
offset_bounds-words-firsts c = record { fits = omega (arith, next (goal.at.offset_bounds-words-firsts c).In-loop) }

pub bounds-words-firsts : goal.bounds-words-firsts
bounds-words-firsts c = simp length-set (next (goal.at.bounds-words-firsts c).In-loop).first

pub offset_bounds-ends-c : goal.offset_bounds-ends-c
offset_bounds-ends-c c = record { fits = omega (arith, next (goal.at.offset_bounds-ends-c c).In-loop) }

pub bounds-ends-c : goal.bounds-ends-c
bounds-ends-c c = (next (goal.at.bounds-ends-c c).In-loop).ends

pub loop-preserved : goal.loop-preserved
loop-preserved c =
    let l = c.loop in
    let less = c.loop-test.true in
    let end = c.requires.1.held l.c (next (goal.at.loop-preserved c).In-loop).ends in
    let wanted = c.wanted.ensures in (
      l.invariant.0,
      elim c.if-wanted.branch [ then-wanted w ↦ queueing_on _ _ _ _ _ _ _ _ _ _ _ l.invariant.1 less _ end _ _ _ (true_T (sym wanted ∙ w.if-wanted.true)) (key_rows _ _ _ _ _ _ _ _ _ w.key-w.ensures l.invariant.0.rows_are) l.invariant.0.firsts_are w.words-is | else-wanted w ↦ queueing_over _ _ _ _ _ _ _ _ _ _ _ l.invariant.1 less _ end _ (false_T (sym wanted ∙ w.if-wanted.false)) w.words-is ],
    )

pub shape_of-words : goal.shape_of-words
shape_of-words c =
    c.loop.invariant.1.count ∙ sym c.requires.4.count

pub returns : goal.returns
returns c = queueing_all _ _ _ _ _ _ _ _ _ _ _ c.loop.invariant.1 c.loop-test.false
