use mathlib.Core.Path.{sym, ◌∙◌}
use native.Mathlib.Omega.{arith}
use Rattle.check_kinds.proofs.Joining.{join_first, join_turn, join_end}
use Rattle.check_kinds.proofs.together.Goals as goal

pub loop-i-init : goal.loop-i-init
loop-i-init c = join_first _ _ _

pub joined-x-requires : goal.joined-x-requires
joined-x-requires c = (c.requires, omega (arith, c.loop-i-test.true, c.count-i-end.ensures))

pub loop-i-preserved : goal.loop-i-preserved
loop-i-preserved c =
    join_turn _ _ _ _ _ _ (omega (arith, c.loop-i-test.true, c.count-i-end.ensures)) c.joined-x.ensures ∙ c.loop-i.invariant

pub returns : goal.returns
returns c = sym (join_end _ _ _ _ _ (omega (arith, c.loop-i-test.false, c.count-i-end.ensures))) ∙ c.loop-i.invariant
