use mathlib.Core.Path.{ap, ◌∙◌}
use Prim.Native.Nat.{◌*◌, ◌≤◌}
use native.Mathlib.Omega.{arith}
use Rattle.tree_layout.specs.Sizes.{fields_size}
use Rattle.tree_layout.proofs.Sizes.{fields_most}
use Rattle.tree_layout.proofs.Places.{landmarks-small, size_is}
use Rattle.tree_layout.proofs.size_at.Goals.{After-mark_size}
use Rattle.tree_layout.proofs.size_at.Goals as goal

-- the landmarks take few bytes
small : (c : After-mark_size) → c.args.m * c.mark_size.result ≤ 1835020
small c =
    rw c.mark_size.ensures (landmarks-small _ _ _ c.requires.0 (λ i. omega (arith, c.shared_slice_known-1.given i)))

pub version-requires : goal.version-requires
version-requires c = omega (arith, c.requires.1)

pub mark_size-requires : goal.mark_size-requires
mark_size-requires c = (c.requires.1, c.requires.2)

pub overflow_mul-result : goal.overflow_mul-result
overflow_mul-result c = omega (arith, small c)

pub overflow_add-result : goal.overflow_add-result
overflow_add-result c = omega (arith, small c, c.fields_size.ensures, fields_most c.version.result)

pub returns : goal.returns
returns c = size_is _ _ _ _ _ (c.fields_size.ensures ∙ ap fields_size c.version.ensures) c.mark_size.ensures
