use native.Mathlib.Omega.{arith}
use Rattle.text.proofs.Appending.{append_then}
use Rattle.text.proofs.put_number.Goals as goal

pub returns : goal.returns
returns c =
    let d = c.put_decimal-next.ensures in
    let p = c.put.ensures in record {
      added = append_then d.added p;
      short = omega (arith, d.short, p.after);
    }
