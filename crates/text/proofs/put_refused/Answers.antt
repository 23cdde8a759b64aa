use native.Mathlib.Omega.{arith}
use Rattle.text.specs.Text.{refused_text}
use Rattle.text.proofs.Appending.{append_then}
use Rattle.text.proofs.put_refused.Goals as goal

pub returns : goal.returns
unfolding refused_text
returns c =
    let p = c.put-next.ensures in
    let n = c.put_number.ensures in record {
      added = append_then p n.added;
      short = omega (arith, p.after, n.short);
    }
