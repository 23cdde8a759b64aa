use Rattle.std.proofs.Common.{◌≡◌, ◌&&◌, ℕ, sym, ap, ◌∙◌, leb, ltb, length, rules}
use native.Mathlib.Omega.{arith}
use Rattle.book.specs.Open.{version}
use Rattle.tree_layout.specs.Sizes.{list_size}
use Rattle.tree_layout.proofs.Accessing.{part_length}
use Rattle.tree_layout.proofs.Marks.{leaf-size, inner-size, least-size, test-outside, test-list, test-span}
use Rattle.tree_layout.proofs.mark_ok.Goals.{After-contains, Then-f-eq0}
use Rattle.tree_layout.proofs.mark_ok.Goals as goal

-- whether the landmark's place is in the range
inside : (c : After-contains) → c.contains.result ≡ (leb c.args.f.first.number c.u16_at.result && ltb c.u16_at.result c.args.f.after)
inside c = search rules

pub u16_at-requires : goal.u16_at-requires
u16_at-requires c = omega (arith, c.requires.2, least-size (version c.args.b.now) c.args.f.children c.args.f.yards)

pub returns-then-not-contains : goal.returns-then-not-contains
returns-then-not-contains c =
    sym (test-outside _ c.args.f _ _ c.u16_at.ensures (sym (inside (goal.at.returns-then-not-contains c).After-contains) ∙ c.if-not-contains.true))

pub list-requires : goal.list-requires
list-requires c = (c.requires.1, omega arith, omega (arith, c.requires.2, leaf-size (version c.args.b.now) c.args.f.children c.args.f.yards c.if-f-eq0.true))

pub list_ok-requires : goal.list_ok-requires
list_ok-requires c =
    let v = ap (λ (x : ℕ). list_size x c.args.f.yards) c.version.ensures in
    let p = ap length c.list.ensures in
    let s = leaf-size (version c.args.b.now) c.args.f.children c.args.f.yards c.if-f-eq0.true in
    (c.requires.0, omega arith, omega (arith, v, p, part_length (version c.args.b.now) c.args.b.now c.args.f.yards c.args.at (omega (arith, s, c.requires.2))))

pub returns-then-f-eq0 : goal.returns-then-f-eq0
returns-then-f-eq0 c =
    test-list _ c.args.f _ _ c.u16_at.ensures (sym (inside (goal.at.returns-then-f-eq0 c).After-contains) ∙ c.if-not-contains.false) c.if-f-eq0.true
    _ _ c.version.ensures c.list.ensures _ c.list_ok.ensures

pub u32_at-requires : goal.u32_at-requires
u32_at-requires c = omega (arith, c.requires.2, inner-size (version c.args.b.now) c.args.f.children c.args.f.yards c.if-f-eq0.false)

pub u32_at-requires-2 : goal.u32_at-requires-2
u32_at-requires-2 c = omega (arith, c.requires.2, inner-size (version c.args.b.now) c.args.f.children c.args.f.yards c.if-f-eq0.false)

pub returns : goal.returns
returns c =
    test-span _ c.args.f _ _ c.u16_at.ensures (sym (inside (goal.at.returns c).After-contains) ∙ c.if-not-contains.false) c.if-f-eq0.false
    _ _ c.u32_at.ensures c.u32_at-2.ensures
