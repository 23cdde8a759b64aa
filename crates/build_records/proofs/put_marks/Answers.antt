use mathlib.Core.Path.{◌≡◌, refl, sym, ◌∙◌}
use Prim.Native.Nat.{◌-◌}
use native.Mathlib.Omega.{arith}
use Rattle.book.specs.Open.{version}
use Rattle.adjacency.proofs.Linking.{few-junctions}
use Rattle.road.proofs.Reading.{row_none, row_some}
use Rattle.tree_layout.specs.Decode.{mark_size}
use Rattle.yard.proofs.YardLayout.{five}
use Rattle.build_records.proofs.Numbered.{yards-few}
use Rattle.build_records.proofs.Writing.{given_mark_length, mark_size_read}
use Rattle.build_records.proofs.Turns.{marking_start, marking_turn, marking_end, landmark-same, landmark-low}
use Rattle.build_records.proofs.put_marks.Goals.{After-mark_size-size}
use Rattle.build_records.proofs.put_marks.Goals as goal

-- its size, by the yard book's version
sized : (c : After-mark_size-size)
    → c.mark_size-size.result ≡ mark_size (version c.args.yb.now) c.args.r.children (c.args.r.part.end - c.args.r.part.from)
sized c = mark_size_read _ _ _ _ _ c.version.ensures c.mark_size-size.ensures

pub version-requires : goal.version-requires
version-requires c = five _ c.requires.0.range.yards.passes

pub mark_size-size-requires : goal.mark_size-size-requires
mark_size-size-requires c = omega (arith, yards-few _ _ _ c.requires.0.range.yards)

pub loop-j-init : goal.loop-j-init
loop-j-init c =
    let p = c.requires in (
      refl,
      row_none _ _ _ (omega (arith, few-junctions p.0.range.adjacency.adjacent)),
      λ road limit b. marking_start _ _ _ _ _ _ _ _,
    )

pub landmark_of-l-requires : goal.landmark_of-l-requires
landmark_of-l-requires c =
    let p = c.requires in
    let n = few-junctions p.0.range.adjacency.adjacent in
    (p.2, c.loop-j-test.true, p.0.few, omega (arith, p.0.range.inside, n), p.0.range.some)

pub walk_from-requires : goal.walk_from-requires
walk_from-requires c =
    let p = c.requires in
    let i = c.loop-j.invariant in
    let h = landmark-low _ _ _ _ _ _ _ _ (p.1 p.0.range.adjacency.book p.0.range.adjacency.adjacent) p.0.range.some c.loop-j-test.true p.0.range.inside
    c.landmark_of-l.ensures in
    (p.0.range.adjacency, i.0, h, i.1.has)

pub loop-j-preserved : goal.loop-j-preserved
loop-j-preserved c =
    let w = c.walk_from in
    let x = c.put_mark in
    let i = c.loop-j.invariant in (
      w.auto.row ∙ i.0,
      row_some _ _ _ w.ensures,
      λ road limit b. marking_turn _ _ _ _ _ _ _ _ _ _ _ _ (i.2 road limit b) c.loop-j-test.true
          (given_mark_length _ _ _ _ _ _ _ _ ∙ sym (sized (goal.at.loop-j-preserved c).After-mark_size-size))
          (landmark-same _ _ _ _ _ _ _ (c.requires.1 road b) c.landmark_of-l.ensures) (x.ensures road (w.ensures road b) _ limit),
    )

pub returns-clause-tree : goal.returns-clause-tree
returns-clause-tree c = λ road limit b. marking_end _ _ _ _ _ _ _ _ _ _ (c.loop-j.invariant.2 road limit b) c.loop-j-test.false
