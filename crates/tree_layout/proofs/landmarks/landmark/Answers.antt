use mathlib.Core.Path.{ap}
use Prim.Native.Nat.{ℕ, ◌+◌, ◌≤◌}
use native.Mathlib.Omega.{arith}
use lib.ListN.{length}
use Rattle.book.specs.Open.{version}
use Rattle.tree_layout.specs.Sizes.{list_size, leaf_mark_size}
use Rattle.tree_layout.proofs.Sizes.{fields_least, leaf_mark_are}
use Rattle.tree_layout.proofs.Accessing.{part_length}
use Rattle.tree_layout.proofs.RecordFields.{fields_inside, span-inside, span-is, list_inside, list-is}
use Rattle.tree_layout.proofs.landmarks.landmark.Goals.{After-u16_at-yards, Start}
use Rattle.tree_layout.proofs.landmarks.landmark.Goals as goal

-- the record's first seven bytes lie in the book
seven : (c : Start) → c.args.at + 7 ≤ length c.args.tree.now
seven c = omega (arith, fields_inside _ _ c.requires.0, fields_least (version c.args.tree.now))

-- the list of a leaf's landmark lies in the book
list-there : (c : After-u16_at-yards) → c.mark_place-p.result + leaf_mark_size (version c.args.tree.now) c.u16_at-yards.result ≤ length c.args.tree.now
list-there c =
    list_inside _ _ c.requires.0 _ c.requires.1 _ c.mark_place-p.ensures _ _ c.u8_at.ensures c.if-u8_at-ne0.false c.u16_at-yards.ensures

pub overflow_add-at : goal.overflow_add-at
overflow_add-at c = omega (arith, seven (goal.at.overflow_add-at c).Start)

pub u8_at-requires : goal.u8_at-requires
u8_at-requires c = omega (arith, seven (goal.at.u8_at-requires c).Start)

pub of_span-requires : goal.of_span-requires
of_span-requires c =
    span-inside _ _ c.requires.0 _ c.requires.1 _ c.mark_place-p.ensures _ c.u8_at.ensures c.if-u8_at-ne0.true

pub returns-then-u8_at-ne0 : goal.returns-then-u8_at-ne0
returns-then-u8_at-ne0 c =
    span-is _ _ c.requires.0 _ c.requires.1 _ c.mark_place-p.ensures _ c.u8_at.ensures c.if-u8_at-ne0.true _ c.of_span.ensures

pub overflow_add-at-2 : goal.overflow_add-at-2
overflow_add-at-2 c = omega (arith, seven (goal.at.overflow_add-at-2 c).Start)

pub u16_at-yards-requires : goal.u16_at-yards-requires
u16_at-yards-requires c = omega (arith, seven (goal.at.u16_at-yards-requires c).Start)

pub junction-place-requires : goal.junction-place-requires
junction-place-requires c = omega (arith, list-there c, leaf_mark_are (version c.args.tree.now) c.u16_at-yards.result)

pub list-requires : goal.list-requires
list-requires c = (c.requires.0.header, omega arith, list-there (goal.at.list-requires c).After-u16_at-yards)

pub version-requires : goal.version-requires
version-requires c = omega (arith, c.requires.0.header)

pub of_list-requires : goal.of_list-requires
of_list-requires c =
    let n = c.u16_at-yards.result in
    let v = ap (λ (x : ℕ). list_size x n) c.version.ensures in
    let p = ap length c.list.ensures in
    (omega (arith, c.requires.0.some, c.u16_at-yards.ensures), omega arith, omega (arith, v, p, part_length (version c.args.tree.now) c.args.tree.now n c.mark_place-p.result (list-there (goal.at.of_list-requires c).After-u16_at-yards)))

pub returns : goal.returns
returns c =
    list-is _ _ c.requires.0 _ c.requires.1 _ c.mark_place-p.ensures _ _ c.u8_at.ensures c.if-u8_at-ne0.false c.u16_at-yards.ensures _ _ _ _
    c.junction-place.ensures c.list.ensures c.version.ensures c.of_list.ensures
