use mathlib.Core.Path.{◌∙◌}
use native.Mathlib.Omega.{arith}
use Rattle.text.proofs.Decimals.{fewest_decimal, fewest_short}
use Rattle.text.proofs.Appending.{append_as}
use Rattle.text.proofs.put_decimal.Goals as goal

pub put-requires : goal.put-requires
put-requires c =
    let d = c.decimal-n in
    let few = fewest_short d.result c.args.x d.ensures.len (omega arith) in
    omega (arith, few, d.ensures.in_bounds)

pub returns : goal.returns
returns c =
    let d = c.decimal-n in
    let p = c.put.ensures in
    let few = fewest_short d.result c.args.x d.ensures.len (omega arith) in record {
      added = append_as (d.ensures.digits ∙ fewest_decimal _ _ d.ensures.len) p;
      short = omega (arith, few, d.ensures.in_bounds, p.after);
    }
