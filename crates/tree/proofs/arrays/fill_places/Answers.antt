use Rattle.tree_layout.proofs.Places.{place-first}
use Rattle.tree_layout.proofs.Accessing.{its_regions, its_landmarks}
use borrow.Author.Rules.{rules}
use mathlib.Core.Path.{sym, ap, ◌∙◌}
use native.Mathlib.Omega.{arith}
use lib.ListN.{length}
use Rattle.tree.proofs.Filling.{overwrite-length, overwrite-none, overwrite-next, place_slot, place-room, place_end, place-next, places-done}
use Rattle.tree.proofs.arrays.fill_places.Goals as goal

pub header-h-requires : goal.header-h-requires
header-h-requires c = omega (arith, c.requires.0.opens.headed)

pub loop-i-init : goal.loop-i-init
loop-i-init c = (sym (place-first _), sym (overwrite-none _ _))

pub bounds-places-i : goal.bounds-places-i
bounds-places-i c =
    place_slot _ c.requires.0 _ _ (its_regions _ _ c.header-h.ensures) (its_landmarks _ _
    c.header-h.ensures) _ _ _ _ c.loop-i-test.true c.requires.1 c.loop-i.invariant.1

pub size_at-at-requires : goal.size_at-at-requires
size_at-at-requires c =
    place-room _ c.requires.0 _ _ (its_regions _ _
    c.header-h.ensures) (its_landmarks _ _ c.header-h.ensures) _ _
    c.loop-i-test.true c.loop-i.invariant.0

pub overflow_add-at : goal.overflow_add-at
overflow_add-at c =
    let h = place_end _ c.requires.0 _ _ (its_regions _ _
    c.header-h.ensures) (its_landmarks _ _ c.header-h.ensures) _ _
    c.loop-i-test.true c.loop-i.invariant.0 _ c.size_at-at.ensures in
    search rules

pub loop-i-preserved : goal.loop-i-preserved
loop-i-preserved c =
    let l = c.loop-i in (
      place-next _ c.requires.0 _ _ (its_regions _ _
          c.header-h.ensures) (its_landmarks _ _ c.header-h.ensures) _ _
          c.loop-i-test.true l.invariant.0 _ c.size_at-at.ensures,
      rw (l.invariant.1, l.invariant.0) (overwrite-next _ _ _),
    )

pub shape_of-places : goal.shape_of-places
shape_of-places c = ap length c.loop-i.invariant.1 ∙ overwrite-length _ _ _

pub returns : goal.returns
returns c =
    c.loop-i.invariant.1 ∙ places-done _ c.requires.0 _ _ (its_regions _ _
    c.header-h.ensures) (its_landmarks _ _ c.header-h.ensures) _ _ _
    c.loop-i.auto.i-end c.loop-i-test.false
