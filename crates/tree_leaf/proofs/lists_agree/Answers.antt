use borrow.Author.Tests.{not-true, not-false}
use mathlib.Core.Path.{sym}
use Prim.Native.Nat.{◌+◌, ◌≤◌, ◌<◌}
use native.Mathlib.Nat.{sub-zero}
use native.Mathlib.Omega.{arith}
use lib.ListN.{length}
use Rattle.book.specs.Open.{version}
use Rattle.tree_layout.specs.Sizes.{leaf_mark_size}
use Rattle.tree_layout.proofs.Turns.{room}
use Rattle.tree_leaf.proofs.Members.{none_agree, part_room, first_fails, first_fits}
use borrow.Author.Rules.{rules}
use Rattle.tree_leaf.proofs.lists_agree.Goals.{After-struct_known-1}
use Rattle.tree_leaf.proofs.lists_agree.Goals as goal

-- past the test there is a landmark, and its list lies in the book
some : (c : After-struct_known-1) → 0 < c.args.m
some c = omega (arith, c.if-m-eq0.false)

first-room : (c : After-struct_known-1) → c.args.start + leaf_mark_size (version c.args.b.now) c.args.f.yards ≤ length c.args.b.now
first-room c =
    let s = c.args in
    (room s.m 0 s.start (leaf_mark_size (version s.b.now) s.f.yards) (length s.b.now) (some c) (simp sub-zero c.requires.1)).0

pub returns-then-m-eq0 : goal.returns-then-m-eq0
returns-then-m-eq0 c = sym (none_agree _ _ _ _ _ _ c.if-m-eq0.true)

pub list-p-requires : goal.list-p-requires
list-p-requires c = (c.requires.0, omega (arith, c.struct_known-1.given), first-room c)

pub version-requires : goal.version-requires
version-requires c = omega (arith, c.requires.0)

pub fill_members-requires : goal.fill_members-requires
fill_members-requires c = (part_room _ _ _ _ _ c.version.ensures c.list-p.ensures (first-room (goal.at.fill_members-requires c).After-struct_known-1), c.requires.2, search rules)

pub returns-then-not-fill_members : goal.returns-then-not-fill_members
returns-then-not-fill_members c =
    let t = c.fill_members.ensures in
    sym (first_fails _ _ _ _ _ _ (some (goal.at.returns-then-not-fill_members c).After-struct_known-1) _ _ _ _ c.version.ensures c.list-p.ensures t.0 t.1 (not-true _ c.if-not-fill_members.true-raw))

pub all_agree-requires : goal.all_agree-requires
all_agree-requires c =
    let t = c.fill_members.ensures in
    let w = first_fits _ _ c.args.m _ _ _ (some (goal.at.all_agree-requires c).After-struct_known-1) _ _ _ _ c.version.ensures c.list-p.ensures t.0 t.1 (not-false _ c.if-not-fill_members.false-raw) in
    (c.requires.0, c.requires.1, some (goal.at.all_agree-requires c).After-struct_known-1, c.requires.2, search rules, w.0, w.1)
