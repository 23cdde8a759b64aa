use Rattle.std.proofs.Common.{◌≡◌, ◌&&◌, ◌<◌, ℕ, true, false, refl, sym, ◌∙◌, leb, ltb, length, replicate, ap, rules}
use native.Mathlib.Omega.{arith}
use Rattle.tree_layout.proofs.EachPart.{element-inside}
use Rattle.tree_layout.proofs.Accessing.{listed-yard}
use Rattle.tree_leaf.proofs.Members.{none_done, all_done, failed, fails_out, fails_twice, one_more}
use Rattle.tree_leaf.proofs.fill_members.Goals.{After-contains, After-fill, Else-not-contains}
use Rattle.tree_leaf.proofs.fill_members.Goals as goal

-- a set of no yard
cleared : (c : After-fill) → c.fill.new.self ≡ replicate 1024 false
cleared c = c.fill.ensures.after (λ y e. e) ∙ ap (λ n. replicate n false) c.requires.2

-- whether the element's yard is in the range
inside : (c : After-contains) → c.contains.result ≡ (leb c.args.f.first.number c.element-y.result.yard.number && ltb c.element-y.result.yard.number c.args.f.after)
inside c = search rules

-- of a range that ends at 1,024 at most
small : (c : Else-not-contains) → c.element-y.result.yard.number < 1024
small c =
    let h : c.element-y.result.yard.number < c.args.f.after = search rules in
    omega (arith, h, c.requires.1)

pub loop-k-init : goal.loop-k-init
loop-k-init c = none_done _ _ _ _ _ _ _ refl (cleared (goal.at.loop-k-init c).After-fill)

pub element-y-requires : goal.element-y-requires
element-y-requires c =
    (omega (arith, c.loop-k.auto.k, c.struct_known-1.given), element-inside _ _ _ _ c.requires.0 (omega (arith, c.loop-k-test.true, c.loop-k.auto.k)))

pub returns-then-not-contains : goal.returns-then-not-contains
returns-then-not-contains c =
    failed _ _ _ _ _ _ (fails_out _ _ _ _ _ _ _ (omega (arith, c.loop-k-test.true)) c.loop-k.auto.k (listed-yard _ _ _ _ c.element-y.ensures)
    (sym (inside (goal.at.returns-then-not-contains c).After-contains) ∙ c.if-not-contains.true))

pub returns-then-members-i : goal.returns-then-members-i
returns-then-members-i c =
    failed _ _ _ _ _ _ (fails_twice _ _ _ _ _ _ _ (omega (arith, c.loop-k-test.true)) c.loop-k.auto.k (listed-yard _ _ _ _ c.element-y.ensures)
    _ c.loop-k.invariant (small (goal.at.returns-then-members-i c).Else-not-contains) c.if-members-i.true)

pub loop-k-preserved : goal.loop-k-preserved
loop-k-preserved c =
    one_more _ _ _ _ _ _ _ (omega (arith, c.loop-k-test.true)) c.loop-k.auto.k (listed-yard _ _ _ _ c.element-y.ensures)
    _ c.loop-k.invariant (small (goal.at.loop-k-preserved c).Else-not-contains) c.if-members-i.false
    (sym (inside (goal.at.loop-k-preserved c).After-contains) ∙ c.if-not-contains.false)

pub returns : goal.returns
returns c = all_done _ _ _ _ _ _ _ (omega (arith, c.loop-k-test.false)) c.loop-k.invariant
