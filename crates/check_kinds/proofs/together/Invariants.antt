use mathlib.Core.Path.{◌≡◌}
use lib.ListN.{drop}
use Rattle.kinds.specs.Kinds.{together_from, together}
use Rattle.yard.specs.Yards.{yards_of, kind_of}
use Rattle.check_rules.specs.Truth.{within}
use Rattle.check_kinds.proofs.together.Given as goal

abbrev pub invariant-loop-i : goal.invariant-loop-i
invariant-loop-i l =
    together_from (kind_of l.yard) l.x (within l.f.first.number l.f.after (drop l.i (yards_of l.yard)))
    ≡ together (kind_of l.yard) (within l.f.first.number l.f.after (yards_of l.yard))
