use Prim.Native.Nat.{◌<◌}
use native.Mathlib.Omega.{arith}
use Rattle.build_records.proofs.Writing.{mark_leaf-written, mark_inner-written, leaf-place-fits, inner-place-fits}
use Rattle.build_records.proofs.marks.put_mark.Goals as goal

pub put_leaf_mark-requires : goal.put_leaf_mark-requires
put_leaf_mark-requires c = (
  c.requires.0,
  c.requires.2,
  leaf-place-fits _ _ _ _ _ c.if-children-eq0.true c.requires.3,
)

pub returns-then-children-eq0 : goal.returns-then-children-eq0
returns-then-children-eq0 c = λ road e m limit. mark_leaf-written _ _ _ _ _ _ _ _ _ c.if-children-eq0.true (c.put_leaf_mark.ensures road e m limit)

pub put_inner_mark-requires : goal.put_inner_mark-requires
put_inner_mark-requires c =
    let some : 0 < c.args.children = omega (arith, c.if-children-eq0.false) in (
      c.requires.0,
      c.requires.1 some,
      c.requires.2,
      inner-place-fits _ _ _ _ _ some c.requires.3,
    )

pub returns-else-children-eq0 : goal.returns-else-children-eq0
returns-else-children-eq0 c = λ road e m limit. mark_inner-written _ _ _ _ _ _ _ _ _ (omega (arith, c.if-children-eq0.false)) (c.put_inner_mark.ensures road e m limit)
