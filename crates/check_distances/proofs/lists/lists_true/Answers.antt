use mathlib.Core.Path.{refl, sym, ◌∙◌}
use Prim.Native.Nat.{◌+◌, ◌≤◌, ◌<◌}
use native.Mathlib.Omega.{arith}
use lib.ListN.{length}
use Rattle.book.specs.Open.{version}
use Rattle.road.proofs.Reading.{row_none, row_some}
use Rattle.tree_layout.specs.Sizes.{leaf_mark_size}
use Rattle.tree_layout.specs.Decode.{landmark_count}
use Rattle.tree_layout.proofs.Sizes.{leaf_mark_are}
use Rattle.tree_layout.proofs.RecordFields.{all-marks-done}
use Rattle.check_rules.proofs.Elements.{list-fits, list_length}
use Rattle.check_distances.proofs.Rows.{few}
use Rattle.check_distances.proofs.Listing.{list-placed, lists_on, lists_off}
use Rattle.check_distances.proofs.lists.lists_true.Goals.{After-mark_place-at, In-loop-j}
use Rattle.check_distances.proofs.lists.lists_true.Goals as goal

-- in the loop a landmark is left
number : (c : In-loop-j) → c.loop-j.j < landmark_count c.args.tree.now
number c = omega (arith, c.loop-j-test.true, c.requires.3)

-- its list lies in the book
there : (c : After-mark_place-at)
    → c.mark_place-at.result + leaf_mark_size (version c.args.tree.now)
    c.args.f.yards
    ≤ length c.args.tree.now
there c =
    let p = c.requires in
    list-fits _ _ p.0.stands p.1 p.2 _ ((omega (arith, c.loop-j-test.true, c.requires.3))) _ c.mark_place-at.ensures

pub version-v-requires : goal.version-v-requires
version-v-requires c = omega (arith, c.requires.0.stands.header)

pub loop-j-init : goal.loop-j-init
loop-j-init c = (refl, row_none _ _ _ (omega (arith, few _ c.requires.0.roads)), λ road a. refl)

pub mark_place-at-requires : goal.mark_place-at-requires
mark_place-at-requires c = (c.requires.0.stands, number c)

pub junction-place-requires : goal.junction-place-requires
junction-place-requires c =
    omega (arith, there c, leaf_mark_are (version c.args.tree.now) c.args.f.yards)

pub walk_from-requires : goal.walk_from-requires
walk_from-requires c =
    let p = c.requires in
    let i = c.loop-j.invariant in
    let h = list-placed _ _ _ p.0 p.1 p.2 _ (number (goal.at.walk_from-requires c).In-loop-j) _ c.mark_place-at.ensures _ c.junction-place.ensures in
    (p.0.roads, i.0, h, i.1.has)

pub list-list-requires : goal.list-list-requires
list-list-requires c =
    (c.requires.0.stands.header, omega arith, there (goal.at.list-list-requires c).After-mark_place-at)

pub list_true-requires : goal.list_true-requires
list_true-requires c =
    let p = c.requires in (
      omega (arith, c.struct_known-1.given),
      list_length _ _ p.0.stands p.1 p.2 _ (number (goal.at.list_true-requires c).In-loop-j) _ c.mark_place-at.ensures _ c.version-v.ensures _ c.list-list.ensures,
    )

pub returns-then-not-list_true : goal.returns-then-not-list_true
returns-then-not-list_true c =
    let p = c.requires in
    λ road a. sym (lists_off _ _ _ p.0 p.1 p.2 _ (number (goal.at.returns-then-not-list_true c).In-loop-j) _ c.mark_place-at.ensures road _ _ _ _ _
    c.junction-place.ensures c.version-v.ensures (c.walk_from.ensures road a) c.list-list.ensures
    c.list_true.ensures c.if-not-list_true.true) ∙ c.loop-j.invariant.2 road a

pub loop-j-preserved : goal.loop-j-preserved
loop-j-preserved c =
    let p = c.requires in
    let i = c.loop-j.invariant in (
      c.walk_from.auto.row ∙ i.0,
      row_some _ _ _ c.walk_from.ensures,
      (λ road a. lists_on _ _ _ p.0 p.1 p.2 _ (number (goal.at.loop-j-preserved c).In-loop-j) _ c.mark_place-at.ensures road _ _ _ _ _
          c.junction-place.ensures c.version-v.ensures (c.walk_from.ensures road a) c.list-list.ensures
          c.list_true.ensures c.if-not-list_true.false ∙ i.2 road a),
    )

pub returns : goal.returns
returns c = λ road a. sym (all-marks-done _ _ _ _ _ c.requires.3 (omega (arith, c.loop-j-test.false))) ∙ c.loop-j.invariant.2 road a
