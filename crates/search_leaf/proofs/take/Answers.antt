use mathlib.Core.Path.{refl, ◌∙◌}
use native.Mathlib.Omega.{arith}
use Rattle.tree_layout.proofs.RecordFields.{fields_inside}
use Rattle.tree_layout.proofs.Accessing.{its_version}
use Rattle.search_leaf.proofs.ElementsOpening.{list-whole, list-near, header-junctions_are, header-words}
use Rattle.search_leaf.proofs.Landmarks.{yards_of_lem, slot, words_are, region_inside, record_here, pick-inside, list-room, list-near as elements-near}
use Rattle.search_leaf.proofs.Leaving.{list-some, leaf-cached, leaf-taken}
use Rattle.search_leaf.proofs.take.Goals as goal

pub landmark-p-requires : goal.landmark-p-requires
landmark-p-requires c = (c.requires.0, c.requires.1)

pub bounds-places-r : goal.bounds-places-r
bounds-places-r c =
    let ready = c.requires.0.ready in
    slot _ _ _ _ _ _ _ ready _ (c.requires.1 _ ready).is_leaf

pub fields-yards-requires : goal.fields-yards-requires
fields-yards-requires c =
    let ready = c.requires.0.ready in
    let at = record_here _ _ _ _ _ _ _ ready _ (c.requires.1 _ ready).is_leaf _ refl in
    (at.header, fields_inside _ _ at)

pub mark_place-place-requires : goal.mark_place-place-requires
mark_place-place-requires c =
    let ready = c.requires.0.ready in
    let l = (c.requires.1 _ ready).is_leaf in
    let o = c.landmark-p.ensures.open _ ready in
    (record_here _ _ _ _ _ _ _ ready _ l _ refl, pick-inside _ _ _ _ _ _ _ ready _ l _ refl _ _ _ o.pick refl refl)

pub list-list-requires : goal.list-list-requires
list-list-requires c =
    let ready = c.requires.0.ready in
    let l = (c.requires.1 _ ready).is_leaf in
    let o = c.landmark-p.ensures.open _ ready in
    let n = yards_of_lem _ _ _ c.fields-yards.ensures in
    let a = c.mark_place-place.ensures in (
      (record_here _ _ _ _ _ _ _ ready _ l _ refl).header,
      omega (arith, c.struct_known-2-1.given),
      list-room _ _ _ _ _ _ _ ready _ l _ refl _ _ _ (pick-inside _ _ _ _ _ _ _ ready _ l _ refl _ _ _ o.pick n a) n a,
    )

pub header-h-requires : goal.header-h-requires
header-h-requires c =
    let ready = c.requires.0.ready in
    (record_here _ _ _ _ _ _ _ ready _ (c.requires.1 _ ready).is_leaf _ refl).header

pub queue_next-requires : goal.queue_next-requires
queue_next-requires c =
    let ready = c.requires.0.ready in
    let q = c.requires.1 _ ready in
    let l = q.is_leaf in
    let m = c.landmark-p in
    let o = m.ensures.open _ ready in
    let n = yards_of_lem _ _ _ c.fields-yards.ensures in
    let a = c.mark_place-place.ensures in
    let e = c.list-list.ensures in
    let h = c.header-h.ensures in
    let v = its_version _ _ h in
    let inside = pick-inside _ _ _ _ _ _ _ ready _ l _ refl _ _ _ o.pick n a in
    let words = m.new.words in (
      list-some _ _ _ _ _ _ _ ready _ l _ refl _ _ _ o.pick n a _ e _ h,
      omega (arith, c.struct_known-2-1.given),
      list-whole _ _ _ _ e _ v (list-room _ _ _ _ _ _ _ ready _ l _ refl _ _ _ inside n a),
      list-near _ _ _ _ e _ v _ _ (header-junctions_are _ _ h) (elements-near _ _ _ _ _ _ _ ready _ l _ refl _ _ _ inside n a),
      header-words _ _ h words (words_are _ _ _ _ _ _ _ ready _ _ _ q words m.auto.words),
      region_inside _ _ _ _ _ _ _ ready _ _ _ q _ h,
      omega (arith, header-junctions_are _ _ h, ready.laid.layout.junctions.1),
      m.auto.values ∙ q.value-count,
    )

pub returns : goal.returns
returns c =
    let m = c.landmark-p.ensures in
    let n = yards_of_lem _ _ _ c.fields-yards.ensures in
    let a = c.mark_place-place.ensures in
    let e = c.list-list.ensures in
    let h = c.header-h.ensures in
    let w = c.queue_next.ensures in record {
      cached = λ road z. leaf-cached _ _ _ _ _ _ _ z _ (c.requires.1 road z).is_leaf _ refl _ _ _ (m.open road z).pick n a _ e _ h _ _ _ _ (c.requires.1 road z)
          m.same (m.open road z) _ w;
      state = λ road z held measured counted. leaf-taken _ _ _ _ _ _ _ z _ (c.requires.1 road z).is_leaf _ refl _ _ _ (m.open road z).pick n a _ e _ h _ _ _ _
          (c.requires.1 road z) m.same (m.open road z) _ w held measured counted;
    }
