use mathlib.Core.Path.{ap, ◌∙◌}
use Prim.Native.Nat.{ℕ, ◌+◌, ◌≤◌}
use native.Mathlib.Omega.{arith}
use lib.ListN.{length}
use Rattle.book.specs.Open.{version}
use Rattle.tree_layout.specs.Sizes.{leaf_mark_size}
use Rattle.tree_layout.proofs.Sizes.{fields_least}
use Rattle.tree_layout.proofs.RecordFields.{size-inner, size-leaf}
use Rattle.tree_layout.proofs.landmarks.mark_size.Goals.{Start}
use Rattle.tree_layout.proofs.landmarks.mark_size.Goals as goal

-- the record's first seven bytes lie in the book
seven : (c : Start) → c.args.at + 7 ≤ length c.args.tree.now
seven c = omega (arith, c.requires.1, fields_least (version c.args.tree.now))

pub overflow_add-at : goal.overflow_add-at
overflow_add-at c = omega (arith, seven (goal.at.overflow_add-at c).Start)

pub u8_at-requires : goal.u8_at-requires
u8_at-requires c = omega (arith, seven (goal.at.u8_at-requires c).Start)

pub returns-then-u8_at-ne0 : goal.returns-then-u8_at-ne0
returns-then-u8_at-ne0 c = size-inner _ _ _ 0 c.u8_at.ensures c.if-u8_at-ne0.true

pub version-requires : goal.version-requires
version-requires c = omega (arith, c.requires.0)

pub overflow_add-at-2 : goal.overflow_add-at-2
overflow_add-at-2 c = omega (arith, seven (goal.at.overflow_add-at-2 c).Start)

pub u16_at-requires : goal.u16_at-requires
u16_at-requires c = omega (arith, seven (goal.at.u16_at-requires c).Start)

pub returns : goal.returns
returns c =
    c.leaf_mark.ensures
    ∙ ap (λ (v : ℕ). leaf_mark_size v c.u16_at.result) c.version.ensures
    ∙ size-leaf _ _ _ _ c.u8_at.ensures c.u16_at.ensures c.if-u8_at-ne0.false
