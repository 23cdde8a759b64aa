use Rattle.tree_encode.proofs.Parts.{span-written}
use Rattle.tree_encode.proofs.put_span.Goals as goal

pub returns : goal.returns
returns c =
    span-written _ _ _ _ _ _ _ _ c.put_u16.ensures
    c.put_u32.ensures c.put_u32-2.ensures
