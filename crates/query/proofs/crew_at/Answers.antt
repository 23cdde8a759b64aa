use Rattle.query.proofs.CrewList.{read_crew}
use Rattle.query.proofs.crew_at.Goals as goal

pub returns : goal.returns
returns c = read_crew _ _ _ c.u16_at.ensures
