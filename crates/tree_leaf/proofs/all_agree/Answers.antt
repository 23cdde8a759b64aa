use borrow.Author.Rules.{rules}
use borrow.Author.Tests.{not-true, not-false}
use mathlib.Core.Path.{◌≡◌, sym, ap, ◌∙◌}
use Prim.Native.Nat.{ℕ, ◌+◌, ◌≤◌}
use native.Mathlib.Nat.{sub-zero}
use native.Mathlib.Omega.{arith}
use lib.ListN.{length}
use Rattle.book.specs.Open.{version}
use Rattle.tree_layout.specs.Sizes.{leaf_mark_size}
use Rattle.tree_layout.proofs.Turns.{room}
use Rattle.tree_leaf.proofs.Listing.{first-list, parts_agree, agree_stop, agree_next, agree_end}
use Rattle.tree_leaf.proofs.Members.{part_room, part-fits, part_members}
use Rattle.tree_leaf.proofs.all_agree.Goals.{After-leaf_mark-at, Start}
use Rattle.tree_leaf.proofs.all_agree.Goals as goal

-- the first list lies in the book
first-room : (c : Start) → c.args.start + leaf_mark_size (version c.args.b.now) c.args.f.yards ≤ length c.args.b.now
first-room c =
    let s = c.args in
    (room s.m 0 s.start (leaf_mark_size (version s.b.now) s.f.yards) (length s.b.now) c.requires.2 (simp sub-zero c.requires.1)).0

-- a landmark's bytes, as they are computed
size : (c : After-leaf_mark-at) → c.leaf_mark-at.result ≡ leaf_mark_size (version c.args.b.now) c.args.f.yards
size c = c.leaf_mark-at.ensures ∙ ap (λ (v : ℕ). leaf_mark_size v c.args.f.yards) c.version-v.ensures

pub version-v-requires : goal.version-v-requires
version-v-requires c = omega (arith, c.requires.0)

pub list-first-requires : goal.list-first-requires
list-first-requires c = (c.requires.0, omega (arith, c.struct_known-1.given), first-room (goal.at.list-first-requires c).Start)

pub loop-init : goal.loop-init
loop-init c =
    (omega arith, simp sub-zero c.requires.1, simp sub-zero)

pub list-p-requires : goal.list-p-requires
list-p-requires c = (
  c.requires.0,
  omega (arith, c.struct_known-1.given),
  omega (arith, (room _ _ _ _ _ c.loop-test.true c.loop.invariant.1).0, c.loop.invariant.0),
)

pub same_yards-requires : goal.same_yards-requires
same_yards-requires c =
    let i = c.loop.invariant in
    let v = c.version-v.ensures in
    let one = c.list-first.ensures in
    let two = c.list-p.ensures in (
      part_room _ _ _ _ _ v one (first-room (goal.at.same_yards-requires c).Start),
      part_room _ _ _ _ _ v two (omega (arith, (room _ _ _ _ _ c.loop-test.true i.1).0, i.0)),
      c.requires.3,
      c.loop.auto.members ∙ c.requires.4,
      part-fits _ _ _ _ _ v one _ _ c.requires.5,
      part_members _ _ _ _ _ v one _ c.requires.6,
    )

pub returns-then-not-same_yards : goal.returns-then-not-same_yards
returns-then-not-same_yards c =
    let e = parts_agree _ _ _ _ _ _ _ _ _ c.version-v.ensures c.list-first.ensures c.list-p.ensures in
    sym (agree_stop _ _ _ _ _ _ _ _ _ (first-list _ _ _ _ (omega (arith, c.loop-test.true))) c.loop-test.true (e ∙ sym c.same_yards.ensures
    ∙ c.if-not-same_yards.true)) ∙ c.loop.invariant.2

pub overflow_add-at : goal.overflow_add-at
overflow_add-at c = omega (arith, (room _ _ _ _ _ c.loop-test.true c.loop.invariant.1).0, size c)

pub loop-preserved : goal.loop-preserved
loop-preserved c =
    let i = c.loop.invariant in
    let e = parts_agree _ _ _ _ _ _ _ _ _ c.version-v.ensures c.list-first.ensures c.list-p.ensures in (
      omega arith,
      rw (size c) (room _ _ _ _ _ c.loop-test.true i.1).1,
      rw (size c) (agree_next _ _ _ _ _ _ _ _ _ (first-list _ _ _ _ (omega (arith, c.loop-test.true))) c.loop-test.true
          (e ∙ sym c.same_yards.ensures ∙ c.if-not-same_yards.false)) ∙ i.2,
    )

pub returns : goal.returns
returns c = sym (agree_end _ _ _ _ _ _ _ _ (omega (arith, c.loop-test.false))) ∙ c.loop.invariant.2
