use native.Mathlib.Omega.{arith}
use Rattle.adjacency.proofs.Linking.{few-junctions}
use Rattle.build_cuts.proofs.Joining.{room-kept, written-few}
use Rattle.build_cuts.proofs.WholeRanges.{range-order, range-ready, leaf-fits, leaf-done, level_left, yards-there, own_fits, parts_fit, cut-done}
use Rattle.build_cuts.proofs.Turns.{part-top, part-size, left-none, left-drop, left-room, left-few, left-in, left-keep}
use Rattle.build_cuts.proofs.+cut.Goals.{then-q, else-q}
use Rattle.build_cuts.proofs.+cut.Goals as goal

pub overflow_sub-p : goal.overflow_sub-p
overflow_sub-p t c = range-order _ _ _ c.requires.0

pub put_own-requires : goal.put_own-requires
put_own-requires t c =
    let p = c.requires in
    let r = p.0 in
    let k = p.3 in (
      record {
        range = range-ready _ _ _ r k.book k.adjacent p.1;
        few = p.2;
        held = λ z. absurd (omega (arith, z));
      },
      λ z. leaf-fits _ _ r.passes _ _ _ _ _ _ _ _
          r.numbers.first r.numbers.after _ c.stays.ensures c.if-stays.true _ k.fits,
    )

pub returns-then-stays : goal.returns-then-stays
returns-then-stays t c =
    let r = c.requires.0 in
    λ road a. leaf-done _ _ r.passes _ _ _ _ _ _ _ _ r.numbers.first r.numbers.after _ c.stays.ensures
    c.if-stays.true _ _ _ _ (c.put_own.ensures road _ a)

pub part_count-children-requires : goal.part_count-children-requires
part_count-children-requires t c = let p = c.requires in (p.0.passes, omega (arith, p.0.inside, few-junctions p.3.adjacent))

pub put_own-put-requires : goal.put_own-put-requires
put_own-put-requires t c =
    let p = c.requires in
    let r = p.0 in
    let k = p.3 in (
      record {
        range = range-ready _ _ _ r k.book k.adjacent p.1;
        few = p.2;
        held = λ z. yards-there k.book _ r.passes c.args.levels _ _
            c.args.plan.limit
            c.args.plan.landmarks 0 _ _ r.numbers.first r.numbers.after _
            c.stays.ensures c.if-stays.false;
      },
      own_fits _ _ r.passes _ _ _ _ _ _ _ _ r.numbers.first r.numbers.after _ c.stays.ensures
          c.if-stays.false _ c.part_count-children.ensures _ k.fits,
    )

pub loop-i-init : goal.loop-i-init
loop-i-init t c =
    let r = c.requires.0 in
    let k = c.requires.3 in
    let w = c.put_own-put in record {
      room = record {
        book = k.book;
        adjacent = k.adjacent;
        fits = room-kept _ _ _ (parts_fit _ _ r.passes _ _ _ _ _ _ _ _ r.numbers.first r.numbers.after _
            c.stays.ensures c.if-stays.false _
            c.part_count-children.ensures _ k.fits _ _ _ _ (w.ensures k.book _ k.adjacent))
            w.auto.tree;
      };
      few = omega (arith, written-few _ _ _ _ _ _ _ (w.ensures k.book c.args.plan.limit k.adjacent));
      done = λ road a after place more v. cut-done _ _ r.passes _ _ _ _ _ _ _ _ r.numbers.first r.numbers.after _
          c.stays.ensures c.if-stays.false _ c.part_count-children.ensures _ _ _ _ (w.ensures road _ a) _ _ _ v;
    }

pub part-q-requires : goal.part-q-requires
part-q-requires t c = let p = c.requires in (p.0.passes, omega (arith, p.0.inside, few-junctions p.3.adjacent), c.loop-i-test.true)

pub cut-more-requires : goal.cut-more-requires
cut-more-requires t c =
    let p = c.requires in
    let r = p.0 in
    let k = p.3 in
    let q = c.part-q.ensures in
    let h = c.loop-i-test.true in
    let left = level_left k.book _ r.passes c.args.levels _ _ c.args.plan.limit c.args.plan.landmarks 0 _ _ r.numbers.first r.numbers.after _ c.stays.ensures
    c.if-stays.false in (
      omega (arith, left),
      (
        record {
          passes = r.passes;
          inside = part-top k.book _ r.passes c.args.levels _ _ _ c.args.plan.limit c.args.plan.landmarks 0 h _ _ q.0 q.1 _ _ q.2.first q.2.after _ r.inside;
          numbers = q.2;
        },
        part-size k.book _ r.passes c.args.levels _ _ _ c.args.plan.limit c.args.plan.landmarks 0 h _ _ q.0 q.1 _ _ q.2.first q.2.after c.if-q.true,
        p.2,
        left-room _ _ r.passes _ _ _ _ _ _ _ _ _ c.loop-i.invariant h _ q.0 q.1 q.2 c.if-q.true,
      ),
    )

pub overflow_add-put : goal.overflow_add-put
overflow_add-put t c =
    let r = c.requires.0 in
    let q = c.part-q.ensures in
    let i = c.loop-i.invariant in
    let h = c.loop-i-test.true in
    omega (
      arith,
      left-few _ _ r.passes _ _ _ _ _ _ _ _ _ i h _ q.0 q.1 q.2 c.if-q.true _ _ _ c.cut-more.ensures,
      left-in _ _ r.passes _ _ _ _ _ _ _ _ _ i h _ q.0 q.1 q.2 c.if-q.true _ _ _ c.cut-more.ensures,
      c.well_formed,
    )

pub loop-i-preserved : goal.loop-i-preserved
loop-i-preserved t c =
    let r = c.requires.0 in
    let q = c.part-q.ensures in
    let i = c.loop-i.invariant in
    let h = c.loop-i-test.true in
    elim c.if-q.branch [
      | then-q w ↦ rw (w.put-is, w.tree-is) (left-keep _ _ r.passes _ _ _ _ _ _ _ _ _ i h _ q.0 q.1 q.2 w.if-q.true _ _ _ w.cut-more.ensures w.cut-more.auto.tree)
      | else-q w ↦ rw (w.put-is, w.tree-is) (left-drop _ _ r.passes _ _ _ _ _ _ _ _ _ i h _ q.0 q.1 q.2 w.if-q.false)
    ]

pub returns : goal.returns
returns t c = left-none _ _ c.requires.0.passes _ _ _ _ _ _ _ _ _ c.loop-i.invariant c.loop-i-test.false c.loop-i.auto.i-end
