use mathlib.Core.Path.{◌∙◌}
use native.Mathlib.Omega.{arith}
use Rattle.build_cuts.proofs.Turns.{cuts-rise, cuts-top}
use Rattle.build_cuts.proofs.ranges.part.Goals as goal

pub overflow_cast-number : goal.overflow_cast-number
overflow_cast-number c =
    let p = c.requires in
    let l = cuts-rise _ _ _ _ _ c.cut_at-low.ensures c.cut_at-high.ensures in
    omega (arith, l, cuts-top _ _ _ p.2 _ c.cut_at-high.ensures, p.1)

pub overflow_sub-high : goal.overflow_sub-high
overflow_sub-high c = cuts-rise _ _ _ _ _ c.cut_at-low.ensures c.cut_at-high.ensures

pub range-requires : goal.range-requires
range-requires c =
    let p = c.requires in
    let l = cuts-rise _ _ _ _ _ c.cut_at-low.ensures c.cut_at-high.ensures in
    (p.0, omega (arith, l, cuts-top _ _ _ p.2 _ c.cut_at-high.ensures, p.1))

pub returns : goal.returns
returns c =
    let r = c.range.ensures in
    let l = cuts-rise _ _ _ _ _ c.cut_at-low.ensures c.cut_at-high.ensures in
    (r.0 ∙ c.cut_at-low.ensures, omega (arith, r.0, r.1, l, c.cut_at-high.ensures), r.2)
