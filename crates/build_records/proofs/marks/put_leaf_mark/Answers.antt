use Prim.Native.Nat.{◌-◌, ◌≤◌}
use native.Mathlib.Omega.{arith}
use Rattle.yard.proofs.YardLayout.{five}
use Rattle.build_records.proofs.Numbered.{yards-few}
use Rattle.build_records.proofs.Writing.{leaf-written, junction-fits, list-place}
use Rattle.build_records.proofs.marks.put_leaf_mark.Goals as goal

pub rank-list-requires : goal.rank-list-requires
rank-list-requires c =
    let few : c.args.p.end - c.args.p.from ≤ 256 = omega (arith, yards-few _ _ _ c.requires.0) in
    (c.requires.0, few, c.requires.1)

pub put_leaf_mark_junction-requires : goal.put_leaf_mark_junction-requires
put_leaf_mark_junction-requires c = junction-fits _ _ _ _ c.requires.2

pub version-requires : goal.version-requires
version-requires c = five _ c.requires.0.passes

pub put_list-requires : goal.put_list-requires
put_list-requires c =
    let n = c.rank-list.ensures.count in (
      omega (arith, yards-few _ _ _ c.requires.0, n),
      rw n (list-place _ _ _ _ _ _ c.version.ensures c.requires.2 c.put_leaf_mark_junction.auto.tree),
    )

pub returns : goal.returns
returns c =
    λ road e m limit. leaf-written _ _ _ _ _ _ e c.requires.1 c.requires.0 m limit _ _ _ _ _ _
    c.version.ensures c.rank-list.ensures.list
    c.put_leaf_mark_junction.ensures c.put_list.ensures
