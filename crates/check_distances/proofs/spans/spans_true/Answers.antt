use mathlib.Core.Path.{refl, sym, ◌∙◌}
use Prim.Native.Nat.{◌<◌}
use native.Mathlib.Omega.{arith}
use Rattle.road.proofs.Reading.{row_none, row_some}
use Rattle.tree_layout.specs.Decode.{landmark_count}
use Rattle.tree_layout.proofs.RecordFields.{all-marks-done}
use Rattle.check_distances.proofs.Rows.{few}
use Rattle.check_distances.proofs.Spanning.{span-placed, spans_on, spans_off}
use Rattle.check_distances.proofs.spans.spans_true.Goals.{In-loop-j}
use Rattle.check_distances.proofs.spans.spans_true.Goals as goal

-- in the loop a landmark is left
number : (c : In-loop-j) → c.loop-j.j < landmark_count c.args.tree.now
number c = omega (arith, c.loop-j-test.true, c.requires.3)

pub loop-j-init : goal.loop-j-init
loop-j-init c = (refl, row_none _ _ _ (omega (arith, few _ c.requires.0.roads)), λ road a. refl)

pub landmark-l-requires : goal.landmark-l-requires
landmark-l-requires c = (c.requires.0.stands, number c)

pub walk_from-requires : goal.walk_from-requires
walk_from-requires c =
    let p = c.requires in
    let i = c.loop-j.invariant in
    (p.0.roads, i.0, span-placed _ _ _ p.0 _ (number (goal.at.walk_from-requires c).In-loop-j) _ c.landmark-l.ensures, i.1.has)

pub span_true-requires : goal.span_true-requires
span_true-requires c = c.requires.1

pub returns-then-not-span_true : goal.returns-then-not-span_true
returns-then-not-span_true c =
    let p = c.requires in
    λ road a. sym (spans_off _ _ _ p.0 _ (number (goal.at.returns-then-not-span_true c).In-loop-j) _ c.landmark-l.ensures road _ _ a p.2 _ (c.walk_from.ensures road a)
    c.span_true.ensures c.if-not-span_true.true) ∙ c.loop-j.invariant.2 road a

pub loop-j-preserved : goal.loop-j-preserved
loop-j-preserved c =
    let p = c.requires in
    let i = c.loop-j.invariant in (
      c.walk_from.auto.row ∙ i.0,
      row_some _ _ _ c.walk_from.ensures,
      (λ road a. spans_on _ _ _ p.0 _ (number (goal.at.loop-j-preserved c).In-loop-j) _ c.landmark-l.ensures road _ _ a p.2 _ (c.walk_from.ensures road a)
          c.span_true.ensures c.if-not-span_true.false ∙ i.2 road a),
    )

pub returns : goal.returns
returns c = λ road a. sym (all-marks-done _ _ _ _ _ c.requires.3 (omega (arith, c.loop-j-test.false))) ∙ c.loop-j.invariant.2 road a
