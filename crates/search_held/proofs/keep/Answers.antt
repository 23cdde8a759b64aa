use Rattle.search_held.proofs.Ruling.{keep-nearest, keep-drive}
use Rattle.search_held.proofs.keep.Goals as goal

pub returns-in-Nearest : goal.returns-in-Nearest
returns-in-Nearest c = record { held = keep-nearest _ _ _ c.in-Nearest.is c.hold.ensures.held; room = c.hold.ensures.room.1 }

pub returns-in-InDrive : goal.returns-in-InDrive
returns-in-InDrive c = record { held = keep-drive _ _ _ c.in-InDrive.is c.keep.ensures.held; room = c.keep.ensures.room }
