use Rattle.std.proofs.Common.{◌≡◌, ◌+◌, ◌≤◌, sym, ◌∙◌, length, rules}
use native.Mathlib.Omega.{arith}
use Rattle.book.specs.Open.{version}
use Rattle.tree_layout.specs.Sizes.{fields_size}
use Rattle.tree_layout.proofs.Places.{size-least}
use Rattle.tree_layout.proofs.Marks.{region-out, region-in, some-yards, mark-room, mark-told}
use Rattle.tree_layout.proofs.region_ok.Goals as goal

pub fields-f-requires : goal.fields-f-requires
fields-f-requires c = (c.requires.0, omega (arith, size-least c.args.b.now c.args.m c.args.at, c.requires.1))

pub every_mark-requires : goal.every_mark-requires
every_mark-requires c =
    let s = some-yards _ c.args.m _ _ _ c.fields-f.ensures (sym c.fields_ok.ensures ∙ c.if-fields_ok.true) in
    (c.requires.0, c.requires.1, λ j h. let r = mark-room _ _ _ 0 _ c.fields-f.ensures j h c.requires.1 in search rules)

pub returns-then-fields_ok : goal.returns-then-fields_ok
returns-then-fields_ok c =
    c.every_mark.ensures _ (λ j h r g. mark-told _ _ _ 0 _ c.fields-f.ensures j h r (search rules))
    ∙ sym (region-in _ _ _ _ _ c.fields-f.ensures (sym c.fields_ok.ensures ∙ c.if-fields_ok.true))

pub returns-else-fields_ok : goal.returns-else-fields_ok
returns-else-fields_ok c = c.if-fields_ok.false ∙ sym (region-out _ _ _ _ _ c.fields-f.ensures (sym c.fields_ok.ensures ∙ c.if-fields_ok.false))
