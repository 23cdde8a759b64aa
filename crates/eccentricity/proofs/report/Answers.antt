use borrow.Author.Rules.{rules}
use mathlib.Core.Path.{ap, ◌∙◌}
use mathlib.Core.List.{List, ◌++◌}
use Prim.Native.Nat.{ℕ}
use Rattle.text.specs.Text.{refused_text}
use Rattle.eccentricity.proofs.Printing.{refused-is, none-refused, table_is}
use Rattle.eccentricity.proofs.report.Goals as goal

pub returns-in-Err-clause-text : goal.returns-in-Err-clause-text
returns-in-Err-clause-text g c =
    c.put_refused.ensures.added
    ∙ ap (λ (l : List ℕ). c.args.out.now ++ l) (ap refused_text c.number.ensures ∙ refused-is _ _ c.in-Err.ensures.answer)

pub rows-requires : goal.rows-requires
rows-requires g c =
    let r = c.in-Ok.ensures in
    (search rules, (record { book = _; adjacent = r.adjacency (none-refused _ _ _ r.answer) }, c.requires))

pub returns-in-Ok-clause-text : goal.returns-in-Ok-clause-text
returns-in-Ok-clause-text g c =
    let r = c.in-Ok.ensures in
    c.rows.ensures.text _ (r.adjacency (none-refused _ _ _ r.answer)) ∙ ap (λ (l : List ℕ). c.args.out.now ++ l) (table_is _ _ _ r.answer)
