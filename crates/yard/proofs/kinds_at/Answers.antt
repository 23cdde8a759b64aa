use mathlib.Core.Path.{ap}
use Prim.Native.Nat.{◌+◌, ◌≤◌}
use native.Mathlib.Omega.{arith}
use lib.ListN.{length}
use Rattle.book.specs.Open.{version}
use Rattle.kinds.specs.Kinds.{kind_size}
use Rattle.yard.proofs.Places.{place-most}
use Rattle.yard.proofs.YardLayout.{five, count_small, yard-ends, read_kind-at}
use Rattle.yard.proofs.kinds_at.Goals.{After-place}
use Rattle.yard.proofs.kinds_at.Goals as goal

-- the yard and its kind lie in the book
room : (c : After-place) → c.place.result + (2 + kind_size (version c.args.b.now)) ≤ length c.args.b.now
room c = omega (arith, c.place.ensures, yard-ends c.args.b.now c.args.i c.requires.0 c.requires.1)

pub version-requires : goal.version-requires
version-requires c = five _ c.requires.0

pub place-requires : goal.place-requires
place-requires c = (five _ c.requires.0, omega (arith, c.requires.1, (count_small c.args.b.now c.requires.0).1))

pub overflow_add-place : goal.overflow_add-place
overflow_add-place c =
    omega (
      arith,
      c.place.ensures,
      c.requires.1,
      (count_small c.args.b.now c.requires.0).1,
      place-most c.args.b.now c.args.i,
    )

pub at-requires : goal.at-requires
at-requires c = omega (arith, room c, ap kind_size c.version.ensures)

pub returns : goal.returns
returns c = read_kind-at _ _ _ _ _ c.version.ensures c.place.ensures c.at.ensures
