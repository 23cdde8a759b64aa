use borrow.Author.Rules.{rules}
use mathlib.Core.Path.{ap, ◌∙◌}
use native.Mathlib.Omega.{arith}
use lib.ListN.{length, length-append}
use Rattle.adjacency.proofs.Linking.{few-junctions}
use Rattle.eccentricity.specs.Output.{heading, row_text}
use Rattle.eccentricity.proofs.Printing.{none_put}
use Rattle.eccentricity.proofs.rows.Goals as goal

pub loop-u-init : goal.loop-u-init
loop-u-init g c = (omega arith, λ b a. none_put (row_text b) _ _ (omega arith))

pub row-requires : goal.row-requires
row-requires g c =
    let few = few-junctions c.requires.0.adjacent in
    let n = c.junctions-u-end.ensures in
    let names = ap length c.put.ensures ∙ length-append c.args.out.now heading in
    (search rules, (c.requires.0, omega (arith, n), omega (arith, n, few, names, c.loop-u.invariant.0, c.requires.1)))

pub returns-clause-fits : goal.returns-clause-fits
returns-clause-fits g c =
    let few = few-junctions c.requires.0.adjacent in
    let n = c.junctions-u-end.ensures in
    let names = ap length c.put.ensures ∙ length-append c.args.out.now heading in
    omega (arith, n, few, names, c.loop-u.invariant.0)
