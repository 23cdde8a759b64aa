use mathlib.Core.Path.{sym, ◌∙◌}
use Rattle.build_records.proofs.Scanning.{bordering_start, bordering_yes, bordering_no, bordering_end}
use Rattle.build_records.proofs.borders.border_list.Goals.{then-is_border, else-is_border}
use Rattle.build_records.proofs.borders.border_list.Goals as goal

pub loop-v-init : goal.loop-v-init
loop-v-init c = λ road b. bordering_start _ _ _ _ c.requires.2

pub loop-v-preserved : goal.loop-v-preserved
loop-v-preserved c =
    λ road b.
    let i = c.loop-v.invariant road b in
    let f = c.requires.1 in
    let h = c.loop-v-test.true in
    let e = c.is_border.ensures road b in
    elim c.if-is_border.branch [ then-is_border w ↦ bordering_yes _ _ _ _ _ _ f i h _ _ (sym e ∙ w.if-is_border.true) w.list-is w.n-is | else-is_border w ↦ bordering_no _ _ _ _ _ _ f i h _ _ (sym e ∙ w.if-is_border.false) w.list-is w.n-is ]

pub returns-clause-list : goal.returns-clause-list
returns-clause-list c = λ road b. bordering_end _ _ _ _ _ _ c.requires.1 (c.loop-v.invariant road b) c.loop-v-test.false
