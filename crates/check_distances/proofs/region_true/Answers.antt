use Rattle.tree_layout.proofs.RecordFields.{fields_inside}
use Rattle.check_rules.proofs.Records.{fields_own}
use Rattle.check_distances.proofs.Regions.{region_leaf, region_inner, marked_own, held_own}
use Rattle.check_distances.proofs.region_true.Goals as goal

pub fields-f-requires : goal.fields-f-requires
fields-f-requires c =
    let s = c.requires.0.stands in
    (s.header, fields_inside _ _ s)

pub lists_true-requires : goal.lists_true-requires
lists_true-requires c =
    let p = c.requires in
    let e = c.fields-f.ensures in
    (marked_own _ _ _ e _ p.0, fields_own _ _ _ e, c.if-f-eq0.true, p.3)

pub returns-then-f-eq0 : goal.returns-then-f-eq0
returns-then-f-eq0 c =
    let p = c.requires in
    λ road a. region_leaf _ _ _ p.3 _ c.fields-f.ensures _ _ _ c.if-f-eq0.true (c.lists_true.ensures road a)

pub spans_true-requires : goal.spans_true-requires
spans_true-requires c =
    let p = c.requires in
    let e = c.fields-f.ensures in
    (marked_own _ _ _ e _ p.0, p.1, held_own _ _ _ e _ p.2, p.3)

pub returns : goal.returns
returns c =
    let p = c.requires in
    λ road a. region_inner _ _ _ p.3 _ c.fields-f.ensures _ _ _ c.if-f-eq0.false (c.spans_true.ensures road a)
