use native.Mathlib.Omega.{arith}
use Rattle.search_leaf.proofs.Scanning.{words_by, scanned_first, scanned_on, scanned_still, scanned_all}
use Rattle.search_leaf.proofs.Numbering.{element-fits}
use Rattle.search_leaf.proofs.Filling.{yard-near}
use Rattle.search_leaf.proofs.Nexts.{next_word_lem, first_picked}
use Rattle.search_leaf.proofs.elements.next_element.Goals.{then-w-f, else-w-f}
use Rattle.search_leaf.proofs.elements.next_element.Goals as goal

pub element-requires : goal.element-requires
element-requires c = element-fits _ c.args.list.now _ 0 c.requires.0 c.requires.1 c.requires.2

pub word_of-f-requires : goal.word_of-f-requires
word_of-f-requires c =
    (yard-near _ _ _ 0 _ _ c.requires.0 c.element.ensures c.requires.3, c.requires.4, c.requires.5, c.requires.6)

pub loop-k-init : goal.loop-k-init
loop-k-init c =
    scanned_first _ _ (words_by _ _ _ _ _ 0 _ _ c.requires.0 c.element.ensures c.word_of-f.ensures)

pub element-requires-in-loop-k : goal.element-requires-in-loop-k
element-requires-in-loop-k c =
    element-fits _ c.args.list.now _ _ c.loop-k-test.true c.requires.1 c.requires.2

pub word_of-w-requires : goal.word_of-w-requires
word_of-w-requires c =
    (yard-near _ _ _ _ _ _ c.loop-k-test.true c.element-in-loop-k.ensures c.requires.3, c.requires.4, c.requires.5, c.requires.6)

pub loop-k-preserved : goal.loop-k-preserved
loop-k-preserved c =
    let l = c.loop-k in
    let e = words_by _ _ _ _ _ l.k _ _ c.loop-k-test.true c.element-in-loop-k.ensures c.word_of-w.ensures in
    elim c.if-w-f.branch [ then-w-f w ↦ scanned_on l.invariant _ e _ _ w.place-is w.f-is (omega (arith, w.if-w-f.true)) | else-w-f w ↦ scanned_still l.invariant _ e _ _ w.place-is w.f-is (omega (arith, w.if-w-f.false)) ]

pub returns-then-f : goal.returns-then-f
returns-then-f c =
    let s = scanned_all _ c.args.yards _ _ _ c.loop-k.invariant (omega arith) (omega arith) in
    let first = words_by _ _ _ _ _ 0 _ _ c.requires.0 c.element.ensures c.word_of-f.ensures in (
      first_picked _ _ _ _ _ s.0 s.1 first (omega arith) (omega (arith, c.if-f.true)),
      omega (arith, c.if-f.true, next_word_lem _ _ _ _ _ _ s.0 s.1),
    )

pub returns : goal.returns
returns c =
    let s = scanned_all _ c.args.yards _ _ _ c.loop-k.invariant (omega arith) (omega arith) in
    (s.0, next_word_lem _ _ _ _ _ _ s.0 s.1, λ e. omega (arith, e, c.if-f.false))
