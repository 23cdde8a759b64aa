use mathlib.Core.Path.{refl}
use Rattle.search_leaf.proofs.Landmarks.{same_none, pick-room, open_already, record_here}
use Rattle.search_leaf.proofs.opening.landmark.Goals as goal

pub header-requires : goal.header-requires
header-requires c =
    let ready = c.requires.0.ready in
    (record_here _ _ _ _ _ _ _ ready _ (c.requires.1 _ ready).is_leaf _ refl).header

pub bounds-words-pick_at : goal.bounds-words-pick_at
bounds-words-pick_at c =
    let ready = c.requires.0.ready in
    pick-room _ _ _ _ _ _ _ ready _ _ _ (c.requires.1 _ ready) _ c.header.ensures _ c.pick_at.ensures

pub returns-then-p : goal.returns-then-p
returns-then-p c =
    record {
      same = same_none _ _ _;
      «open» = λ road z. open_already _ _ _ _ _ _ _ z _ _ _ (c.requires.1 road z) _ c.header.ensures _ c.pick_at.ensures _ refl c.if-p.true;
    }

pub open-requires : goal.open-requires
open-requires c = (c.requires.0, c.requires.1)

pub returns : goal.returns
returns c = c.open.ensures
