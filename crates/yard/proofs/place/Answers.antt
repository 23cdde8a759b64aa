use Prim.Native.Nat.{◌≤◌}
use native.Mathlib.Omega.{arith}
use Rattle.kinds.proofs.Reading.{size-most}
use Rattle.yard.proofs.Places.{place_by, product_small}
use Rattle.yard.proofs.place.Goals.{After-size}
use Rattle.yard.proofs.place.Goals as goal

-- a kind's bytes are few, and so are those of all yards
few : (c : After-size) → c.size.result ≤ 1
few c = omega (arith, c.size.ensures, size-most c.version.result)

pub version-requires : goal.version-requires
version-requires c = c.requires.0

pub overflow_add-result : goal.overflow_add-result
overflow_add-result c = omega (arith, few c)

pub overflow_mul-result : goal.overflow_mul-result
overflow_mul-result c = omega (arith, product_small c.args.i c.size.result c.requires.1 (few c))

pub overflow_add-result-2 : goal.overflow_add-result-2
overflow_add-result-2 c = omega (arith, product_small c.args.i c.size.result c.requires.1 (few c))

pub returns : goal.returns
returns c = place_by _ _ _ _ c.version.ensures c.size.ensures
