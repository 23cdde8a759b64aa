use mathlib.Core.Path.{ap, ◌∙◌}
use Prim.Native.Nat.{ℕ, ◌+◌, ◌≤◌}
use native.Mathlib.Omega.{arith}
use lib.ListN.{length}
use Rattle.book.specs.Open.{version}
use Rattle.kinds.specs.Kinds.{kind_size, kind_at}
use Rattle.tree_layout.proofs.Sizes.{fields_are, fields_least}
use Rattle.tree_layout.proofs.records.fields.Goals.{Start}
use Rattle.tree_layout.proofs.records.fields.Goals as goal

-- the record's first seven bytes lie in the book
seven : (c : Start) → c.args.at + 7 ≤ length c.args.b.now
seven c = omega (arith, c.requires.1, fields_least (version c.args.b.now))

pub junction-requires : goal.junction-requires
junction-requires c = omega (arith, seven (goal.at.junction-requires c).Start)

pub overflow_add-at : goal.overflow_add-at
overflow_add-at c = omega (arith, seven (goal.at.overflow_add-at c).Start)

pub u16_at-requires : goal.u16_at-requires
u16_at-requires c = omega (arith, seven (goal.at.u16_at-requires c).Start)

pub overflow_add-at-2 : goal.overflow_add-at-2
overflow_add-at-2 c = omega (arith, seven (goal.at.overflow_add-at-2 c).Start)

pub u8_at-requires : goal.u8_at-requires
u8_at-requires c = omega (arith, seven (goal.at.u8_at-requires c).Start)

pub overflow_add-at-3 : goal.overflow_add-at-3
overflow_add-at-3 c = omega (arith, seven (goal.at.overflow_add-at-3 c).Start)

pub u16_at-requires-2 : goal.u16_at-requires-2
u16_at-requires-2 c = omega (arith, seven (goal.at.u16_at-requires-2 c).Start)

pub version-requires : goal.version-requires
version-requires c = omega (arith, c.requires.0)

pub overflow_add-at-4 : goal.overflow_add-at-4
overflow_add-at-4 c = omega (arith, seven (goal.at.overflow_add-at-4 c).Start)

pub at-requires : goal.at-requires
at-requires c =
    omega (arith, c.requires.1, fields_are (version c.args.b.now), ap kind_size c.version.ensures)

pub returns : goal.returns
returns c =
    let s = c.args in
    λ i. record {
      at = s.at;
      first = record { number = c.junction.ensures i };
      after = c.u16_at.ensures i;
      children = c.u8_at.ensures i;
      yards = c.u16_at-2.ensures i;
      kinds = (c.at.ensures ∙ ap (λ (v : ℕ). kind_at v s.b.now (s.at + 7)) c.version.ensures) i;
    }
