use native.Mathlib.Omega.{arith}
use Rattle.yard.proofs.YardLayout.{five}
use Rattle.build_tree.proofs.Limits.{yards-alone}
use Rattle.build_tree.proofs.Placing.{all-few, all-range, all-some, all_room, end_is, end_low, end-some, count_low, header-room, book-done}
use Rattle.build_tree.proofs.put_tree.Goals as goal

pub junctions-n-requires : goal.junctions-n-requires
junctions-n-requires c = c.requires.adjacent.size

pub range-all-requires : goal.range-all-requires
range-all-requires c =
    (yards-alone _ _ _ _ _ _ c.requires.accepted, all-few _ _ _ _ c.args.tree.now c.requires _ c.junctions-n.ensures)

pub cut-put-requires : goal.cut-put-requires
cut-put-requires c =
    let n = c.junctions-n.ensures in
    let r = c.range-all.ensures in (
      all-range _ _ _ _ c.args.tree.now c.requires _ n _ r.0 r.1 r.2,
      all-some _ _ _ _ c.args.tree.now c.requires _ n _ r.0 r.1 r.2,
      c.requires.accepted.range.landmarks.1,
      all_room _ _ _ _ c.args.tree.now c.requires _ n _ r.0 r.1 r.2,
    )

pub version-v-requires : goal.version-v-requires
version-v-requires c = five _ (yards-alone _ _ _ _ _ _ c.requires.accepted)

pub overflow_cast-header : goal.overflow_cast-header
overflow_cast-header c =
    let r = c.range-all.ensures in
    omega (arith, count_low _ _ _ _ c.args.tree.now c.requires _ c.junctions-n.ensures _ r.0 r.1 r.2 _ _ _ c.cut-put.ensures)

pub count-requires : goal.count-requires
count-requires c = yards-alone _ _ _ _ _ _ c.requires.accepted

pub overflow_cast-header-2 : goal.overflow_cast-header-2
overflow_cast-header-2 c = omega (arith, c.requires.accepted.range.landmarks.1)

pub overflow_sub-end : goal.overflow_sub-end
overflow_sub-end c =
    let r = c.range-all.ensures in
    omega (arith, end-some _ _ _ _ c.args.tree.now c.requires _ c.junctions-n.ensures _ r.0 r.1 r.2 _ _ _ c.cut-put.ensures)

pub overflow_cast-end : goal.overflow_cast-end
overflow_cast-end c =
    let r = c.range-all.ensures in
    omega (arith, end_low _ _ _ _ c.args.tree.now c.requires _ c.junctions-n.ensures _ r.0 r.1 r.2 _ _ _ c.cut-put.ensures)

pub put_book_header-requires : goal.put_book_header-requires
put_book_header-requires c =
    let r = c.range-all.ensures in
    header-room _ _ _ _ c.args.tree.now c.requires _ c.junctions-n.ensures _ r.0 r.1 r.2 _ _ _ c.cut-put.ensures _
    c.cut-put.auto.tree

pub returns : goal.returns
returns c =
    let n = c.junctions-n.ensures in
    let r = c.range-all.ensures in
    let w = c.cut-put.ensures in record {
      answer = end_is _ _ _ _ c.args.tree.now c.requires _ n _ r.0 r.1 r.2 _ _ _ w;
      tree = book-done _ _ _ _ c.args.tree.now c.requires _ n _ r.0 r.1 r.2 _ _ _ w _ _ _ c.put_book_header.ensures
          (omega (arith, c.version-v.ensures)) c.count.ensures;
    }
