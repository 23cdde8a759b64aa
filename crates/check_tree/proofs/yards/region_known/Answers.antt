use native.Mathlib.Omega.{arith}
use Rattle.tree_layout.proofs.RecordFields.{fields_inside}
use Rattle.check_tree.proofs.Knowing.{inner_known, first-room, first-length, leaf_known}
use Rattle.check_tree.proofs.yards.region_known.Goals as goal

pub fields-f-requires : goal.fields-f-requires
fields-f-requires c =
    let s = c.requires.1 in
    (s.header, fields_inside _ _ s)

pub returns-then-f-ne0 : goal.returns-then-f-ne0
returns-then-f-ne0 c = inner_known _ _ _ c.fields-f.ensures _ c.if-f-ne0.true

pub mark_place-first-requires : goal.mark_place-first-requires
mark_place-first-requires c =
    let s = c.requires.1 in
    (s, s.landmarks.0)

pub list-list-requires : goal.list-list-requires
list-list-requires c =
    let s = c.requires.1 in
    (s.header, omega (arith, c.struct_known-2-1.given), first-room _ _ _ c.fields-f.ensures s c.if-f-ne0.false _ c.mark_place-first.ensures)

pub version-requires : goal.version-requires
version-requires c = omega (arith, c.requires.1.header)

pub list_known-requires : goal.list_known-requires
list_known-requires c =
    let p = c.requires in (
      p.0,
      omega (arith, c.struct_known-2-1.given),
      first-length _ _ _ c.fields-f.ensures p.1 c.if-f-ne0.false _ c.mark_place-first.ensures _ c.version.ensures _ c.list-list.ensures,
    )

pub returns : goal.returns
returns c =
    leaf_known _ _ _ c.fields-f.ensures c.requires.1 c.if-f-ne0.false _ c.mark_place-first.ensures _
    c.version.ensures _ c.list-list.ensures _ _ c.list_known.ensures
