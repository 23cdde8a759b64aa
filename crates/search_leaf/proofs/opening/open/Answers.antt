use mathlib.Core.Path.{refl, ◌∙◌}
use native.Mathlib.Omega.{arith}
use lib.ListN.{length-set}
use Rattle.tree_layout.proofs.RecordFields.{fields_inside}
use Rattle.tree_layout.proofs.Accessing.{its_version}
use Rattle.search_leaf.proofs.ElementsOpening.{list-near, list-whole, passed_by, header-landmarks_are, header-rows}
use Rattle.search_leaf.proofs.Landmarks.{yards_of_lem, driven_of, table_crews, pick_of, pick-room, slot, record_here, marks-few, pick-inside}
use Rattle.search_leaf.proofs.Landmarks.{list-room, place-near, list_wide, list-short, driven-to, same_queue, open_leaf_lem}
use Rattle.search_leaf.proofs.opening.open.Goals as goal

pub header-h-requires : goal.header-h-requires
header-h-requires c =
    let ready = c.requires.0.ready in
    (record_here _ _ _ _ _ _ _ ready _ (c.requires.1 _ ready).is_leaf _ refl).header

pub choose_mark-p-requires : goal.choose_mark-p-requires
choose_mark-p-requires c =
    let ready = c.requires.0.ready in (
      ready.laid,
      slot _ _ _ _ _ _ _ ready _ (c.requires.1 _ ready).is_leaf,
      header-rows _ _ c.header-h.ensures _ ready.tableed.limits,
      table_crews _ _ _ _ _ _ _ ready,
    )

pub offset_bounds-words-pick_place : goal.offset_bounds-words-pick_place
offset_bounds-words-pick_place c =
    let ready = c.requires.0.ready in
    omega (arith, pick-room _ _ _ _ _ _ _ ready _ _ _ (c.requires.1 _ ready) _ c.header-h.ensures _ c.pick_at-pick_place.ensures)

pub bounds-words-pick_place : goal.bounds-words-pick_place
bounds-words-pick_place c =
    let ready = c.requires.0.ready in
    pick-room _ _ _ _ _ _ _ ready _ _ _ (c.requires.1 _ ready) _ c.header-h.ensures _ c.pick_at-pick_place.ensures

pub bounds-places-r : goal.bounds-places-r
bounds-places-r c =
    let ready = c.requires.0.ready in
    slot _ _ _ _ _ _ _ ready _ (c.requires.1 _ ready).is_leaf

pub fields-yards-requires : goal.fields-yards-requires
fields-yards-requires c =
    let ready = c.requires.0.ready in
    let at = record_here _ _ _ _ _ _ _ ready _ (c.requires.1 _ ready).is_leaf _ refl in
    (at.header, fields_inside _ _ at)

pub mark_place-place-requires : goal.mark_place-place-requires
mark_place-place-requires c =
    let ready = c.requires.0.ready in
    let l = (c.requires.1 _ ready).is_leaf in
    let pick = pick_of _ _ _ _ _ _ _ ready _ l.inside _ _ (header-landmarks_are _ _ c.header-h.ensures) c.choose_mark-p.ensures in
    (record_here _ _ _ _ _ _ _ ready _ l _ refl, pick-inside _ _ _ _ _ _ _ ready _ l _ refl _ _ _ pick refl refl)

pub open-requires : goal.open-requires
open-requires c =
    let ready = c.requires.0.ready in
    let q = c.requires.1 _ ready in
    let l = q.is_leaf in
    let pick = pick_of _ _ _ _ _ _ _ ready _ l.inside _ _ (header-landmarks_are _ _ c.header-h.ensures) c.choose_mark-p.ensures in
    let n = yards_of_lem _ _ _ c.fields-yards.ensures in
    let a = c.mark_place-place.ensures in
    let inside = pick-inside _ _ _ _ _ _ _ ready _ l _ refl _ _ _ pick n a in (
      driven-to _ _ _ _ _ _ _ ready _ l _ refl _ _ _ inside n a,
      ready.tableed.limits,
      (record_here _ _ _ _ _ _ _ ready _ l _ refl).header,
      omega (arith, c.struct_known-3-1.given),
      list-room _ _ _ _ _ _ _ ready _ l _ refl _ _ _ inside n a,
      list_wide _ _ _ _ _ _ _ ready _ l _ refl _ _ _ inside n a,
      list-short _ _ _ _ _ _ _ ready _ l _ refl _ _ _ inside n a,
      q.value-count,
    )

pub mark_place-requires : goal.mark_place-requires
mark_place-requires c =
    let ready = c.requires.0.ready in
    let l = (c.requires.1 _ ready).is_leaf in
    let pick = pick_of _ _ _ _ _ _ _ ready _ l.inside _ _ (header-landmarks_are _ _ c.header-h.ensures) c.choose_mark-p.ensures in
    (record_here _ _ _ _ _ _ _ ready _ l _ refl, omega (arith, marks-few _ _ _ _ _ _ _ ready _ l _ refl _ pick))

pub list-first-requires : goal.list-first-requires
list-first-requires c =
    let ready = c.requires.0.ready in
    let l = (c.requires.1 _ ready).is_leaf in
    let pick = pick_of _ _ _ _ _ _ _ ready _ l.inside _ _ (header-landmarks_are _ _ c.header-h.ensures) c.choose_mark-p.ensures in
    let n = yards_of_lem _ _ _ c.fields-yards.ensures in (
      (record_here _ _ _ _ _ _ _ ready _ l _ refl).header,
      omega (arith, c.struct_known-3-1.given),
      list-room _ _ _ _ _ _ _ ready _ l _ refl _ _ _ (omega (arith, marks-few _ _ _ _ _ _ _ ready _ l _ refl _ pick)) n c.mark_place.ensures,
    )

pub pass_over-requires : goal.pass_over-requires
pass_over-requires c =
    let ready = c.requires.0.ready in
    let q = c.requires.1 _ ready in
    let l = q.is_leaf in
    let pick = pick_of _ _ _ _ _ _ _ ready _ l.inside _ _ (header-landmarks_are _ _ c.header-h.ensures) c.choose_mark-p.ensures in
    let n = yards_of_lem _ _ _ c.fields-yards.ensures in
    let a = c.mark_place.ensures in
    let e = c.list-first.ensures in
    let v = its_version _ _ c.header-h.ensures in
    let few = marks-few _ _ _ _ _ _ _ ready _ l _ refl _ pick in (
      (omega (arith, c.struct_known-3-1.given), list-whole _ _ _ _ e _ v (list-room _ _ _ _ _ _ _ ready _ l _ refl _ _ _ (omega (arith, few)) n a)),
      list-near _ _ _ _ e _ v _ _ refl (list_wide _ _ _ _ _ _ _ ready _ l _ refl _ _ _ (omega (arith, few)) n a),
      c.open.auto.values ∙ q.value-count,
    )

pub shape_of-words : goal.shape_of-words
shape_of-words c = simp length-set

pub returns : goal.returns
returns c =
    let ready = c.requires.0.ready in
    let h = c.header-h.ensures in
    let j = c.pick_at-pick_place.ensures in
    let n = yards_of_lem _ _ _ c.fields-yards.ensures in
    let a = c.mark_place-place.ensures in
    let f = c.mark_place.ensures in
    let chose = c.choose_mark-p.ensures in
    let opened = c.open.ensures in
    let passed = passed_by _ _ _ _ c.list-first.ensures _ (its_version _ _ h) _ _ _ c.pass_over.ensures in record {
      same = let q = c.requires.1 _ ready in
          let l = q.is_leaf in
          let pick = pick_of _ _ _ _ _ _ _ ready _ l.inside _ _ (header-landmarks_are _ _ h) chose in
          same_queue _ _ _ _ _ _ _ ready _ l _ refl _ _ _ pick n a _ _ q _ h _ j;
      «open» = λ road z.
          let q = c.requires.1 road z in
          let l = q.is_leaf in
          let pick = pick_of _ _ _ _ _ _ _ z _ l.inside _ _ (header-landmarks_are _ _ h) chose in
          let inside = pick-inside _ _ _ _ _ _ _ z _ l _ refl _ _ _ pick n a in
          open_leaf_lem _ _ _ _ _ _ _ z _ l _ refl _ _ _ pick n a _ _ q _ h _ j _ f _ _
          (opened _ (driven_of _ _ _ _ _ _ _ z) (place-near _ _ _ _ _ _ _ z _ l _ refl _ _ _ inside n a)) passed;
    }
