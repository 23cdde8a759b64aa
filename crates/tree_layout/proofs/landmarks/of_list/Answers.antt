use mathlib.Core.Path.{refl, ap, ◌∙◌}
use Prim.Native.Nat.{ℕ, ◌-◌}
use native.Mathlib.Omega.{arith}
use Rattle.book.specs.Bytes.{u32_at}
use Rattle.tree_layout.proofs.Sizes.{list-room, element-least}
use Rattle.tree_layout.proofs.RecordFields.{list-ends}
use Rattle.tree_layout.proofs.landmarks.of_list.Goals as goal

pub u32_at-requires : goal.u32_at-requires
u32_at-requires c =
    omega (arith, c.requires.2, list-room c.args.v 0 c.args.n c.requires.0, element-least c.args.v)

pub u32_at-requires-2 : goal.u32_at-requires-2
u32_at-requires-2 c =
    omega (arith, c.requires.2, c.list_size.ensures, list-room c.args.v (c.args.n - 1) c.args.n (omega (arith, c.requires.0)), element-least c.args.v)

pub returns : goal.returns
returns c =
    list-ends _ _ _ _ _ _ c.requires.0 c.u32_at.ensures (c.u32_at-2.ensures ∙ ap (λ (x : ℕ). u32_at c.args.p.now x) c.list_size.ensures) _ refl
