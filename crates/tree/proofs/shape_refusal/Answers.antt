use mathlib.Core.Path.{sym, ◌∙◌}
use borrow.Author.Tests.{not-true, not-false}
use Rattle.tree_layout.proofs.Accessing.{its_regions}
use Rattle.tree.proofs.Answering.{header-room, places_need, prefix_room, prefix_length, prefix_laid, unshaped, ends_need, shaped-done}
use Rattle.tree.proofs.shape_refusal.Goals as goal

pub fill_places-requires : goal.fill_places-requires
fill_places-requires c =
    places_need c.args.b.now c.requires.0 c.args.places.now c.requires.1

pub header-h-requires : goal.header-h-requires
header-h-requires c = header-room _ c.requires.0

pub slice_bounds-keeps_shape-end : goal.slice_bounds-keeps_shape-end
slice_bounds-keeps_shape-end c =
    prefix_room _ c.requires.0 _ c.requires.1 _ (its_regions _ _ c.header-h.ensures) _ c.fill_places.ensures

pub slice_bounds-keeps_shape-end-2 : goal.slice_bounds-keeps_shape-end-2
slice_bounds-keeps_shape-end-2 c =
    prefix_length _ c.requires.0 _ c.requires.1 _ (its_regions _ _ c.header-h.ensures) _ c.fill_places.ensures

pub keeps_shape-requires : goal.keeps_shape-requires
keeps_shape-requires c =
    prefix_laid _ c.requires.0 _ c.requires.1 _ (its_regions _ _ c.header-h.ensures) _ c.fill_places.ensures

pub returns-then-not-keeps_shape : goal.returns-then-not-keeps_shape
returns-then-not-keeps_shape c =
    let h = unshaped _ c.requires.0 _ c.requires.1 _ (its_regions _ _ c.header-h.ensures) _ c.fill_places.ensures _ c.requires.2 (sym
    c.keeps_shape.ensures ∙ not-true _ c.if-not-keeps_shape.true-raw) in
    record { answer = h.0; places = h.1.0; ends = h.1.1 }

pub slice_bounds-fill_ends-end : goal.slice_bounds-fill_ends-end
slice_bounds-fill_ends-end c =
    prefix_room _ c.requires.0 _ c.requires.1 _ (its_regions _ _ c.header-h.ensures) _ c.fill_places.ensures

pub slice_bounds-fill_ends-end-2 : goal.slice_bounds-fill_ends-end-2
slice_bounds-fill_ends-end-2 c =
    prefix_length _ c.requires.0 _ c.requires.1 _ (its_regions _ _ c.header-h.ensures) _ c.fill_places.ensures

pub fill_ends-requires : goal.fill_ends-requires
fill_ends-requires c =
    ends_need _ c.requires.0 _ c.requires.1 _ (its_regions _ _ c.header-h.ensures) _ c.fill_places.ensures c.args.ends.now c.requires.2
    (sym c.keeps_shape.ensures ∙ not-false _ c.if-not-keeps_shape.false-raw)

pub returns : goal.returns
returns c =
    let h = shaped-done _ c.requires.0 _ c.requires.1 _ (its_regions _ _ c.header-h.ensures) _ c.fill_places.ensures _ c.requires.2 (sym
    c.keeps_shape.ensures ∙ not-false _ c.if-not-keeps_shape.false-raw) _ c.fill_ends.ensures in
    record { answer = h.0; places = h.1.0; ends = h.1.1 }
