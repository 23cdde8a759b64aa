use mathlib.Core.Path.{◌∙◌}
use native.Mathlib.Omega.{arith}
use lib.ListN.{length-take}
use Rattle.within.proofs.Lines.{line_inside}
use Rattle.within.proofs.Texts.{line_missing, line_there}
use Rattle.within.proofs.line.seconds_in.Goals as goal

pub returns-then-end-s : goal.returns-then-end-s
returns-then-end-s c = line_missing _ (omega (arith, c.if-end-s.true, c.line_length-end.ensures))

pub slice_bounds-number-end : goal.slice_bounds-number-end
slice_bounds-number-end c =
    simp length-take (omega (arith, c.line_length-end.ensures, line_inside c.args.s.now))

pub returns : goal.returns
returns c =
    let e = c.line_length-end.ensures in
    let inside = line_inside c.args.s.now in
    c.number.ensures ∙ line_there _ _ e (omega (arith, e, inside, c.if-end-s.false))
