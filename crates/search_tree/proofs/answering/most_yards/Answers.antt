use mathlib.Core.Path.{refl}
use Rattle.search_tree.proofs.answering.most_yards.Goals as goal

pub returns-in-Nearest : goal.returns-in-Nearest
returns-in-Nearest c = rw c.in-Nearest.is refl

pub returns-in-InDrive : goal.returns-in-InDrive
returns-in-InDrive c = rw c.in-InDrive.is refl
