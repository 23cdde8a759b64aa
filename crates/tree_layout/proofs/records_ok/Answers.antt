use mathlib.Core.Path.{◌≡◌, sym, ap, ◌∙◌}
use native.Mathlib.Omega.{arith}
use native.Mathlib.Nat.{sub-zero}
use Rattle.book.specs.Open.{version}
use Rattle.tree_layout.specs.Sizes.{fields_size}
use Rattle.tree_layout.specs.Refusal.{records_ok}
use Rattle.tree_layout.proofs.Turns.{records_short, records_cut, records_next, records_end}
use Rattle.tree_layout.proofs.records_ok.Goals.{After-fields_size-fields}
use Rattle.tree_layout.proofs.records_ok.Goals as goal

-- the bytes of a region's fields, as they are computed
fields : (c : After-fields_size-fields) → c.fields_size-fields.result ≡ fields_size (version c.args.b.now)
fields c = c.fields_size-fields.ensures ∙ ap fields_size c.version.ensures

pub version-requires : goal.version-requires
version-requires c = omega (arith, c.requires.1)

pub loop-init : goal.loop-init
loop-init c = (omega (arith, c.requires.1), simp sub-zero)

pub returns-then-len-at : goal.returns-then-len-at
returns-then-len-at c = sym (records_short _ _ _ _ _ c.loop-test.true (omega (arith, c.if-len-at.true, fields (goal.at.returns-then-len-at c).After-fields_size-fields))) ∙ c.loop.invariant.1

pub size_at-size-requires : goal.size_at-size-requires
size_at-size-requires c =
    (c.requires.0, c.requires.1, omega (arith, c.if-len-at.false, fields (goal.at.size_at-size-requires c).After-fields_size-fields))

pub returns-then-len-at-2 : goal.returns-then-len-at-2
returns-then-len-at-2 c =
    sym (records_cut _ _ _ _ _ _ c.size_at-size.ensures c.loop-test.true (omega (arith, c.if-len-at.false, fields (goal.at.returns-then-len-at-2 c).After-fields_size-fields)) (omega (arith, c.if-len-at-2.true)))
    ∙ c.loop.invariant.1

pub loop-preserved : goal.loop-preserved
loop-preserved c = (
  omega (arith, c.if-len-at-2.false),
  records_next _ _ _ _ _ _ c.size_at-size.ensures c.loop-test.true (omega (arith, c.if-len-at.false, fields (goal.at.loop-preserved c).After-fields_size-fields)) (omega (arith, c.if-len-at-2.false)) ∙ c.loop.invariant.1,
)

pub returns : goal.returns
returns c = sym (records_end _ _ _ _ _ (omega (arith, c.loop-test.false))) ∙ c.loop.invariant.1
