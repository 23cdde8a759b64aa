use mathlib.Core.Path.{refl}
use Rattle.search_bounds.proofs.Filled.{header-room, root_record, root-few, root-part, root-size, root-inside, root-taken}
use Rattle.search_bounds.proofs.Filled.{taken-within, taken-room, taken_rowed}
use Rattle.search_bounds.proofs.table.prepare.Goals as goal

pub header-h-requires : goal.header-h-requires
header-h-requires c = header-room _ c.requires.1

pub slice_bounds-places-end : goal.slice_bounds-places-end
slice_bounds-places-end c = root-few _ c.requires.1 _ c.header-h.ensures _ refl

pub slice_bounds-root_places-end : goal.slice_bounds-root_places-end
slice_bounds-root_places-end c =
    let l = c.requires.1 in
    root-part _ l _ c.header-h.ensures _ refl _ refl

pub root_places-requires : goal.root_places-requires
root_places-requires c =
    let l = c.requires.1 in
    (root_record _ l, root-size _ l _ c.header-h.ensures _ refl _ refl)

pub slice_bounds-places-end-2 : goal.slice_bounds-places-end-2
slice_bounds-places-end-2 c =
    root-inside _ c.requires.1 _ c.header-h.ensures _ refl _ refl _ c.root_places.ensures

pub slice_bounds-fill-end : goal.slice_bounds-fill-end
slice_bounds-fill-end c =
    root-taken _ c.requires.1 _ c.header-h.ensures _ refl _ refl _ c.root_places.ensures

pub fill-requires : goal.fill-requires
fill-requires c =
    let s = c.requires in
    let h = c.header-h.ensures in
    let read = c.root_places.ensures in
    (s.0, taken-within _ s.1 _ h _ refl _ refl _ read _ s.2, taken-room _ s.1 _ h _ refl _ refl _ read _ s.4)

pub fill-requires-2 : goal.fill-requires-2
fill-requires-2 c =
    let s = c.requires in
    (s.0, s.3, s.5)

pub returns : goal.returns
returns c =
    let l = c.requires.1 in
    let h = c.header-h.ensures in
    let read = c.root_places.ensures in record {
      table = λ road a. taken_rowed _ l _ h _ refl _ refl _ read road _ (c.fill.ensures road a);
      drives = c.fill-2.ensures;
    }
