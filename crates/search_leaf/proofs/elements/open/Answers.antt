use mathlib.Core.Path.{refl, sym, ◌∙◌}
use native.Mathlib.Omega.{arith}
use lib.Seq.{length-take-le}
use Rattle.book.specs.Open.{version}
use Rattle.tree_layout.proofs.Sizes.{leaf_mark_are}
use Rattle.tree_layout.proofs.Accessing.{its_version}
use Rattle.search_leaf.proofs.ElementsOpening.{driven-at, list-near, list-short, list-whole, header-landmarks_are, header-rows, crews_wide}
use Rattle.search_leaf.proofs.ElementsOpening.{front-room, front_length, front-short, opened-values}
use Rattle.search_leaf.proofs.elements.open.Goals as goal

pub junction-l-requires : goal.junction-l-requires
junction-l-requires c =
    omega (arith, c.requires.4, leaf_mark_are (version c.args.tree.now) c.args.yards)

pub slice_bounds-out-end : goal.slice_bounds-out-end
slice_bounds-out-end c = c.requires.0.driven.few

pub slice_bounds-to_crews-end : goal.slice_bounds-to_crews-end
slice_bounds-to_crews-end c = sym (length-take-le _ _ c.requires.0.driven.few)

pub to_crews-requires : goal.to_crews-requires
to_crews-requires c =
    (driven-at _ _ _ _ c.junction-l.ensures c.requires.0, length-take-le _ _ c.requires.0.driven.few)

pub slice_bounds-out-end-2 : goal.slice_bounds-out-end-2
slice_bounds-out-end-2 c =
    let t = c.to_crews in
    front-room c.args.crews.now t.new.out _ (t.auto.out ∙ length-take-le _ _ c.requires.0.driven.few)

pub slice_bounds-fill-end : goal.slice_bounds-fill-end
slice_bounds-fill-end c =
    let t = c.to_crews in
    sym (front_length c.args.crews.now t.new.out _ (t.auto.out ∙ length-take-le _ _ c.requires.0.driven.few))

pub fill-requires : goal.fill-requires
fill-requires c =
    let t = c.to_crews in
    let d = c.requires.0.driven in
    let h = c.header-h.ensures in
    let l = c.list-list.ensures in
    let v = its_version _ _ h in
    let same = t.auto.out ∙ length-take-le _ _ d.few in
    let j = c.junction-l.ensures in (
      (c.requires.3, list-whole _ c.args.at _ _ l _ v c.requires.4),
      header-rows _ _ h _ c.requires.1,
      crews_wide _ _ _ d,
      front_length c.args.crews.now t.new.out _ same,
      front-short c.args.crews.now t.new.out _ same _ _ d.roads (omega (arith, j, c.requires.0.junction)) d.there
          (t.ensures _ d (omega (arith, j, c.requires.0.junction))),
      list-near _ c.args.at _ _ l _ v _ _ refl c.requires.5,
      list-short _ c.args.at _ _ l _ v _ _ _ _ (header-landmarks_are _ _ h) c.requires.6,
      c.requires.7,
    )

pub returns : goal.returns
returns c =
    let t = c.to_crews in
    let j = c.junction-l.ensures in
    λ road d n. opened-values _ c.args.at _ _ c.list-list.ensures _ c.header-h.ensures c.args.code
    c.args.table.now c.args.crews.now t.new.out _ (t.auto.out ∙ length-take-le _ _ c.requires.0.driven.few) _ _
    c.fill.ensures road _ j (t.ensures road d (omega (arith, j)))
