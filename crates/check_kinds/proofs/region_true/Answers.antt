use native.Mathlib.Omega.{arith}
use Rattle.tree_layout.proofs.RecordFields.{fields_inside}
use Rattle.check_rules.proofs.Records.{fields_own, record_own}
use Rattle.check_kinds.proofs.Regions.{byte_other, leaf_by_table, inner-lists}
use Rattle.check_kinds.proofs.region_true.Goals as goal

pub fields-f-requires : goal.fields-f-requires
fields-f-requires c =
    let s = c.requires.1 in
    (s.header, fields_inside _ _ s)

pub together-requires : goal.together-requires
together-requires c = c.requires.0

pub returns-then-f-together : goal.returns-then-f-together
returns-then-f-together c =
    byte_other _ _ _ c.requires.2 _ c.fields-f.ensures _ _ _ c.together.ensures
    (λ q. omega (arith, q, c.if-f-together.true))

pub returns-then-f-ne0 : goal.returns-then-f-ne0
returns-then-f-ne0 c =
    inner-lists _ _ _ c.requires.2 _ c.fields-f.ensures _ _ _ c.together.ensures
    (omega (arith, c.if-f-together.false)) c.if-f-ne0.true

pub lists_true-requires : goal.lists_true-requires
lists_true-requires c =
    let p = c.requires in
    let e = c.fields-f.ensures in
    (record_own _ _ _ e p.1, fields_own _ _ _ e, c.if-f-ne0.false, p.2)

pub returns : goal.returns
returns c =
    let p = c.requires in
    leaf_by_table _ _ _ _ p.2 _ c.fields-f.ensures _ _ c.together.ensures (omega (arith, c.if-f-together.false)) _ _ p.3
    c.lists_true.ensures
