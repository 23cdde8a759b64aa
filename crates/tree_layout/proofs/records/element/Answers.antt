use mathlib.Core.Path.{ap, ◌∙◌}
use Prim.Native.Nat.{ℕ, ◌+◌, ◌≤◌}
use native.Mathlib.Omega.{arith}
use lib.ListN.{length}
use Rattle.book.specs.Bytes.{u16_at, u32_at}
use Rattle.kinds.specs.Kinds.{kind_size, kind_at}
use Rattle.tree_layout.specs.Sizes.{list_size}
use Rattle.tree_layout.proofs.Sizes.{element_are}
use Rattle.tree_layout.proofs.records.element.Goals.{Start}
use Rattle.tree_layout.proofs.records.element.Goals as goal

-- the element lies in the list
inside : (c : Start) → list_size c.args.v c.args.k + (6 + kind_size c.args.v) ≤ length c.args.p.now
inside c = omega (arith, c.requires.1, element_are c.args.v)

pub list_size-at-requires : goal.list_size-at-requires
list_size-at-requires c = c.requires.0

pub u32_at-distance-requires : goal.u32_at-distance-requires
u32_at-distance-requires c = omega (arith, inside (goal.at.u32_at-distance-requires c).Start, c.list_size-at.ensures)

pub overflow_add-at : goal.overflow_add-at
overflow_add-at c = omega (arith, inside (goal.at.overflow_add-at c).Start, c.list_size-at.ensures)

pub u16_at-requires : goal.u16_at-requires
u16_at-requires c = omega (arith, inside (goal.at.u16_at-requires c).Start, c.list_size-at.ensures)

pub overflow_add-at-2 : goal.overflow_add-at-2
overflow_add-at-2 c = omega (arith, inside (goal.at.overflow_add-at-2 c).Start, c.list_size-at.ensures)

pub at-kinds-requires : goal.at-kinds-requires
at-kinds-requires c = omega (arith, inside (goal.at.at-kinds-requires c).Start, c.list_size-at.ensures)

pub returns : goal.returns
returns c =
    let s = c.args in
    let at = c.list_size-at.ensures in
    λ i. record {
      distance = (c.u32_at-distance.ensures ∙ ap (λ (x : ℕ). u32_at s.p.now x) at) i;
      yard = record { number = (c.u16_at.ensures ∙ ap (λ (x : ℕ). u16_at s.p.now (x + 4)) at) i };
      kinds = (c.at-kinds.ensures ∙ ap (λ (x : ℕ). kind_at s.v s.p.now (x + 6)) at) i;
    }
