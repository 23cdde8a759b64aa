use mathlib.Core.Path.{refl}
use native.Mathlib.Omega.{arith}
use Rattle.search_queue.proofs.Eights.{pass_short, pass_long}
use Rattle.search_queue.proofs.eight_pass.Goals as goal

pub returns-then-words-j-lt8 : goal.returns-then-words-j-lt8
returns-then-words-j-lt8 c = pass_short _ _ _ (omega arith) (omega arith)

pub returns : goal.returns
returns c = pass_long _ _ _ _ _ (omega arith) c.least_of_eight.ensures refl
