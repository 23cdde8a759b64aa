use mathlib.Core.Path.{sym, ap, ◌∙◌}
use Prim.Native.Nat.{◌+◌, ◌≤◌}
use native.Mathlib.Nat.{sub-zero}
use native.Mathlib.Omega.{arith}
use lib.ListN.{length}
use Rattle.book.specs.Open.{version}
use Rattle.kinds.specs.Kinds.{kind_size}
use Rattle.yard.proofs.Places.{place-room, place-most}
use Rattle.yard.proofs.Rising.{kinds_on, unset, kinds-end}
use Rattle.yard.proofs.YardLayout.{read_kind-at}
use Rattle.yard.proofs.kinds_set.Goals.{After-place}
use Rattle.yard.proofs.kinds_set.Goals as goal

-- the yard and its kind lie in the book
room : (c : After-place) → c.place.result + (2 + kind_size (version c.args.b.now)) ≤ length c.args.b.now
room c = omega (
  arith,
  c.place.ensures,
  c.requires.2,
  place-room c.args.b.now c.loop-i.i c.args.count c.loop-i-test.true,
)

pub loop-i-init : goal.loop-i-init
loop-i-init c = simp sub-zero

pub version-requires : goal.version-requires
version-requires c = c.requires.0

pub place-requires : goal.place-requires
place-requires c = (c.requires.0, omega (arith, c.loop-i-test.true, c.requires.1))

pub overflow_add-place : goal.overflow_add-place
overflow_add-place c =
    omega (
      arith,
      c.place.ensures,
      c.requires.1,
      c.loop-i-test.true,
      place-most c.args.b.now c.loop-i.i,
    )

pub at-requires : goal.at-requires
at-requires c = omega (arith, room c, ap kind_size c.version.ensures)

pub returns-then-at-eq0 : goal.returns-then-at-eq0
returns-then-at-eq0 c =
    sym (unset _ _ _ _ c.loop-i-test.true (read_kind-at _ _ _ _ _ c.version.ensures c.place.ensures c.at.ensures) c.if-at-eq0.true)
    ∙ c.loop-i.invariant

pub loop-i-preserved : goal.loop-i-preserved
loop-i-preserved c =
    kinds_on _ _ _ _ c.loop-i-test.true (read_kind-at _ _ _ _ _ c.version.ensures c.place.ensures c.at.ensures) c.if-at-eq0.false
    ∙ c.loop-i.invariant

pub returns : goal.returns
returns c = sym (kinds-end _ _ _ c.loop-i-test.false) ∙ c.loop-i.invariant
