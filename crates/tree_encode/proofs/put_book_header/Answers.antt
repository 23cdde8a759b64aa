use mathlib.Core.Path.{refl, ◌∙◌}
use native.Mathlib.Omega.{arith}
use lib.ListN.{length-set}
use Rattle.tree_encode.proofs.Parts.{header-written}
use Rattle.tree_encode.proofs.put_book_header.Goals as goal

pub put_u16-requires : goal.put_u16-requires
put_u16-requires c =
    simp length-set (omega (arith, c.put_u32.auto.d, c.requires))

pub put_u16-requires-2 : goal.put_u16-requires-2
put_u16-requires-2 c =
    omega (
      arith,
      c.put_u16.auto.d,
      simp length-set at c.put_u16.auto.d,
      c.put_u32.auto.d,
      c.requires,
    )

pub put_u16-requires-3 : goal.put_u16-requires-3
put_u16-requires-3 c =
    omega (
      arith,
      c.put_u16-2.auto.d,
      simp length-set at c.put_u16.auto.d,
      c.put_u32.auto.d,
      c.requires,
    )

pub bounds-tree-11 : goal.bounds-tree-11
bounds-tree-11 c =
    omega (
      arith,
      c.put_u16-3.auto.d,
      c.put_u16-2.auto.d,
      simp length-set at c.put_u16.auto.d,
      c.put_u32.auto.d,
      c.requires,
    )

pub shape_of-tree : goal.shape_of-tree
shape_of-tree c =
    simp length-set
    (c.put_u16-3.auto.d ∙ (c.put_u16-2.auto.d ∙ (c.put_u16.auto.d ∙ simp length-set
    c.put_u32.auto.d)))

pub returns : goal.returns
returns c =
    header-written _ _ _ _ _ _ _ _ _ _ _ _ _ c.put_u32.ensures refl c.put_u16.ensures c.put_u16-2.ensures c.put_u16-3.ensures refl
