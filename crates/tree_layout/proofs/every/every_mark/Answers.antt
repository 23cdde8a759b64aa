use mathlib.Core.Path.{◌≡◌, refl, sym, ap, ◌∙◌}
use Prim.Native.Nat.{ℕ, ◌+◌, ◌*◌, ◌≤◌}
use native.Mathlib.Omega.{arith}
use lib.ListN.{length}
use Rattle.book.specs.Open.{version}
use Rattle.tree_layout.specs.Sizes.{fields_size}
use Rattle.tree_layout.specs.code.Marks.{mark_place}
use Rattle.tree_layout.proofs.EachPart.{mark-stands, mark-inside, marks_on, marks_off, marks-done}
use Rattle.tree_layout.proofs.Places.{size-least}
use Rattle.tree_layout.proofs.every.every_mark.Goals as goal

pub mark_size-size-requires : goal.mark_size-size-requires
mark_size-size-requires g c = (c.requires.0, omega (arith, size-least c.args.b.now c.args.m c.args.at, c.requires.1))

pub marks_at-start-requires : goal.marks_at-start-requires
marks_at-start-requires g c =
    omega (arith, size-least c.args.b.now c.args.m c.args.at, c.requires.1, ap fields_size c.version.ensures)

pub loop-j-init : goal.loop-j-init
loop-j-init g c = λ ok t. refl

pub overflow_mul-j : goal.overflow_mul-j
overflow_mul-j g c = omega (arith, mark-inside _ _ _ c.requires.1 _ c.loop-j-test.true _ c.mark_size-size.ensures)

pub overflow_add-start : goal.overflow_add-start
overflow_add-start g c =
    omega (arith, mark-inside _ _ _ c.requires.1 _ c.loop-j-test.true _ c.mark_size-size.ensures, c.marks_at-start.ensures, ap fields_size c.version.ensures)

pub test-requires : goal.test-requires
test-requires g c =
    rw (mark-stands _ c.args.at _ c.version.ensures _ c.marks_at-start.ensures c.loop-j.j _ c.mark_size-size.ensures) (c.requires.2 c.loop-j.j c.loop-j-test.true)

pub returns-then-not-test : goal.returns-then-not-test
returns-then-not-test g c =
    let p = mark-stands _ c.args.at _ c.version.ensures _ c.marks_at-start.ensures c.loop-j.j _ c.mark_size-size.ensures in
    λ ok t. sym (marks_off _ _ _ _ c.loop-j-test.true _ p (goal.F-post g c.args.test) ok t _ c.test.ensures c.if-not-test.true) ∙ c.loop-j.invariant ok t

pub loop-j-preserved : goal.loop-j-preserved
loop-j-preserved g c =
    let p = mark-stands _ c.args.at _ c.version.ensures _ c.marks_at-start.ensures c.loop-j.j _ c.mark_size-size.ensures in
    λ ok t. marks_on _ _ _ _ c.loop-j-test.true _ p (goal.F-post g c.args.test) ok t _ c.test.ensures c.if-not-test.false ∙ c.loop-j.invariant ok t

pub returns : goal.returns
returns g c = λ ok t. sym (marks-done ok _ _ _ _ (omega (arith, c.loop-j-test.false))) ∙ c.loop-j.invariant ok t
