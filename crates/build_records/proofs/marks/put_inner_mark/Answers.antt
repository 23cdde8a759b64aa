use Rattle.build_records.proofs.Writing.{inner-written}
use Rattle.build_records.proofs.marks.put_inner_mark.Goals as goal

pub returns : goal.returns
returns c =
    let span = c.measure-span.ensures in
    λ road e m limit. inner-written _ _ _ _ _ _ e c.requires.2 c.requires.0 m limit _ _ _ _ _ c.requires.1 span.0 span.1 c.put_span.ensures
