use mathlib.Core.Path.{◌≡◌}
use mathlib.Core.Bool.{Bool}
use lib.ListN.{drop}
use Rattle.tree_layout.specs.Values.{Mark}
use Rattle.tree_layout.specs.Decode.{read_region}
use Rattle.tree_layout.specs.Refusal.{all}
use Rattle.tree_layout.specs.code.Every.{TestsMark}
use Rattle.tree_layout.proofs.every.every_mark.Given as goal

abbrev pub invariant-loop-j : goal.invariant-loop-j
invariant-loop-j g l =
    (ok : Mark → Bool) → TestsMark l.b l.at l.m (goal.F-post g l.test) ok
    → all ok (drop l.j (read_region l.b l.m l.at).marks) ≡ all ok (read_region l.b l.m l.at).marks
