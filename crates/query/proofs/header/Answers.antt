use Rattle.query.proofs.Reading.{asked_is}
use Rattle.query.proofs.header.Goals as goal

pub returns : goal.returns
returns c = asked_is _ _ _ _ _ c.u8_at.ensures c.u8_at-2.ensures c.u32_at.ensures c.u8_at-3.ensures
